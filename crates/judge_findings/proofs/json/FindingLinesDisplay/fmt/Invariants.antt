use Rattle.std.proofs.Common.{take}
use Rattle.std.specs.List.{flat_map}
use Rattle.std.specs.Fmt.{HasWritten, IsPlainFormatter}
use Rattle.judge_findings.specs.Findings.{finding_lines_of}
use Rattle.judge_findings.proofs.json.FindingLinesDisplay.fmt.Given as goal

abbrev pub invariant-loop-rule : goal.invariant-loop-rule
invariant-loop-rule g l =
    let judged = l.self.judged in
    IsPlainFormatter l.initial.f → HasWritten g.W.Write.write_str_gives l.initial.f
    (flat_map (finding_lines_of judged.judge.now judged.entry.now judged.place judged.master) (take l.rule-index l.rule-items)) l.f
