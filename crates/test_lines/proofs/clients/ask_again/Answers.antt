use Rattle.dp_line.specs.World.{description_of}
use Rattle.test_lines.proofs.clients.ask_again.Goals as goal

pub returns : goal.returns
returns c = λ master octets reply rule telegram is spelt srd valid reported apart free.
    rw (c.take.ensures.answer, c.take_each-2.ensures, c.take-first.ensures.world, c.take_each.ensures, c.in_ok-line.ensures.start, is)
    (c.a_repeat_gets_the_same_octets.ensures (description_of c.args.spec.now) c.args.before.now c.args.between.now master octets reply rule telegram spelt srd valid
    (rw (c.take-first.ensures.answer, c.take_each.ensures, c.in_ok-line.ensures.start, is) at reported) apart (rw is at free))
