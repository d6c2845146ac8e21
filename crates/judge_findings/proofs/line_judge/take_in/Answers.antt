use Rattle.std.proofs.Common.{◌∙◌, ap, sym}
use Rattle.std.proofs.Math.ListN.{set}
use Rattle.judge_findings.proofs.Taking.{taken_at_found, taken_at_none}
use Rattle.judge_findings.proofs.line_judge.take_in.Goals as goal

pub returns-in-Some : goal.returns-in-Some
returns-in-Some c =
    ap (set c.args.seats.now c.in-Some.index) c.take.ensures
    ∙ taken_at_found c.args.master c.args.entry.now c.args.place c.args.rules.now c.args.seats.now c.in-Some.index c.index-seats-index.result c.in-Some.ensures

pub returns-in_default : goal.returns-in_default
returns-in_default c = sym (taken_at_none c.args.master c.args.entry.now c.args.place c.args.rules.now c.args.seats.now c.in_default.ensures)
