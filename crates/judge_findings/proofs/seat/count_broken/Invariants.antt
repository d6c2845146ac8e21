use Rattle.std.proofs.Common.{◌≡◌, length}
use Rattle.judge_findings.specs.Counts.{counted}
use Rattle.judge_findings.proofs.seat.count_broken.Given as goal

abbrev pub invariant-loop-left : goal.invariant-loop-left
invariant-loop-left l = counted l.judge l.entry l.place l.left l.counts ≡ counted l.judge l.entry l.place l.rules l.initial.counts

abbrev pub decreases-loop-left : goal.decreases-loop-left
decreases-loop-left l = length l.left
