use Rattle.std.proofs.Common.{◌≡◌, take}
use Rattle.judge_findings.specs.Lines.{first_seats}
use Rattle.judge_findings.proofs.line_judge.new_seats.Given as goal

abbrev pub invariant-loop-master : goal.invariant-loop-master
invariant-loop-master l = l.seats.items ≡ first_seats l.retries (take l.master-index l.masters)
