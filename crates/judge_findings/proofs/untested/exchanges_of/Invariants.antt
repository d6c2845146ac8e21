use Rattle.std.proofs.Common.{◌≡◌, length}
use Rattle.std.specs.Prelude.{fold}
use Rattle.judge_findings.specs.Tested.{exchanges_of, with_exchanges}
use Rattle.judge_findings.proofs.untested.exchanges_of.Given as goal

abbrev pub invariant-loop-left : goal.invariant-loop-left
invariant-loop-left l = fold with_exchanges l.sum l.left ≡ exchanges_of l.seats

abbrev pub decreases-loop-left : goal.decreases-loop-left
decreases-loop-left l = length l.left
