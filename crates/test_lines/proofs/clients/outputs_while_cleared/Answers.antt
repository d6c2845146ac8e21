use Rattle.dp_line.specs.World.{description_of}
use Rattle.test_lines.proofs.clients.outputs_while_cleared.Goals as goal

pub returns : goal.returns
returns c = λ further address slave here cleared.
    (c.a_slave_is_sound_after_further_events.ensures (description_of c.args.spec.now) c.args.events.now further address slave (rw (c.take_each.ensures, c.in_ok-line.ensures.start) at here)).cleared_outputs cleared
