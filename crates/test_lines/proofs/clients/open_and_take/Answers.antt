use Rattle.dp_line.specs.World.{description_of}
use Rattle.test_lines.proofs.clients.open_and_take.Goals as goal

pub returns : goal.returns
returns c = rw (c.take_each.ensures, c.in_ok-line.ensures.start) (c.lockers_alone_hold.ensures.described (description_of c.args.spec.now) c.args.events.now)
