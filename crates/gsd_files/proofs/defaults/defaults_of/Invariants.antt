use Rattle.gsd_files.specs.Left.{IsFinding, most_left}
use Rattle.gsd_files.proofs.defaults.defaults_of.Given as goal

abbrev pub invariant-loop-left : goal.invariant-loop-left
invariant-loop-left l = IsFinding l.fn.text l.defaults.items l.block l.left

abbrev pub decreases-loop-left : goal.decreases-loop-left
decreases-loop-left l = most_left l.left
