use Rattle.gsd_files.specs.Left.{IsReading, most_left}
use Rattle.gsd_files.proofs.gsd.read_with.Given as goal

abbrev pub invariant-loop-left : goal.invariant-loop-left
invariant-loop-left l = IsReading l.fn.text l.row (record { state = l.state; modules = l.parts.modules.items; slots = l.parts.slots.items }) l.left

abbrev pub decreases-loop-left : goal.decreases-loop-left
decreases-loop-left l = most_left l.left
