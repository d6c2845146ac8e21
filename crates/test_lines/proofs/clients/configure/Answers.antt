use Rattle.dp_line.specs.World.{description_of}
use Rattle.test_lines.proofs.clients.configure.Goals as goal

pub returns : goal.returns
returns c = λ master octets reply telegram parts slave after is spelt read point here number reported there.
    (c.a_good_chk_cfg_puts_its_shape_in_force.ensures (description_of c.args.spec.now) c.args.before.now master 1 octets reply telegram parts slave after spelt read point here number
    (rw (c.take-answer.ensures.answer, c.take_each.ensures, c.in_ok-line.ensures.start, is) at reported)
    (rw (c.take-answer.ensures.world, c.take_each.ensures, c.in_ok-line.ensures.start, is) at there)).inputs
