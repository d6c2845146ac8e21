use Rattle.explain_texts.specs.Json.{verdict_json}
use Rattle.explain_texts.proofs.Writing.{front_cut, then_leaves}
use Rattle.judge_texts.specs.Judging.{summary_lines}
use Rattle.judge_texts.proofs.ending.write_lines_end.Goals as goal

pub returns-in-Ok : goal.returns-in-Ok
returns-in-Ok g c =
    then_leaves (g.W.Write.contents c.args.writer.now) (g.W.Write.contents c.write_text.new.writer) (g.W.Write.contents c.write_verdict_line.new.writer)
    (summary_lines c.args.summary.rules.now c.args.summary.least c.args.summary.seats.now) (verdict_json c.args.verdict) c.write_verdict_line.result c.in-Ok.ensures c.write_verdict_line.ensures

pub returns-in-Err : goal.returns-in-Err
returns-in-Err g c =
    front_cut (g.W.Write.contents c.args.writer.now) (g.W.Write.contents c.write_text.new.writer) (summary_lines c.args.summary.rules.now c.args.summary.least c.args.summary.seats.now) (verdict_json c.args.verdict) c.in-Err.ensures
