use Rattle.std.proofs.Common.{◌≡◌, take}
use Rattle.std.specs.List.{count_by}
use Rattle.judge_findings.specs.Counts.{is_failure}
use Rattle.judge_findings.proofs.seat.Seat.failures.Given as goal

abbrev pub invariant-loop-rule : goal.invariant-loop-rule
invariant-loop-rule l = l.failures ≡ count_by (is_failure l.self.counts) (take l.rule-index l.rules)
