use Rattle.std.proofs.Common.{take}
use Rattle.std.specs.List.{flat_map}
use Rattle.std.specs.Fmt.{HasWritten, IsPlainFormatter}
use Rattle.judge_findings.specs.Summary.{test_case}
use Rattle.judge_findings.proofs.junit.SeatCasesDisplay.fmt.Given as goal

abbrev pub invariant-loop-rule : goal.invariant-loop-rule
invariant-loop-rule g l =
    IsPlainFormatter l.initial.f → HasWritten g.W.Write.write_str_gives l.initial.f
    (flat_map (test_case l.self.seat.now) (take l.rule-index l.rule-items)) l.f
