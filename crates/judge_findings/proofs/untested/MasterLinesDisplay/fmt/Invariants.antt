use Rattle.std.proofs.Common.{take}
use Rattle.std.specs.List.{flat_map}
use Rattle.std.specs.Fmt.{HasWritten, IsPlainFormatter}
use Rattle.judge_findings.specs.Tested.{master_line}
use Rattle.judge_findings.proofs.untested.MasterLinesDisplay.fmt.Given as goal

abbrev pub invariant-loop-seat : goal.invariant-loop-seat
invariant-loop-seat g l =
    IsPlainFormatter l.initial.f → HasWritten g.W.Write.write_str_gives l.initial.f
    (flat_map (master_line l.self.least) (take l.seat-index l.seat-items)) l.f
