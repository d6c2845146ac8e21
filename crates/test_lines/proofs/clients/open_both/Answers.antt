use Rattle.dp_line.specs.World.{description_of}
use Rattle.test_lines.proofs.clients.open_both.Goals as goal

pub returns : goal.returns
returns c =
    rw (c.take_each.ensures, c.take_each-2.ensures, c.in_ok-line.ensures.start, c.in_ok-another.ensures.start)
    (λ master address events. c.isolation_since_the_opening.ensures master address (description_of c.args.spec.now) (description_of c.args.other.now) c.args.before.now c.args.before_there.now events)
