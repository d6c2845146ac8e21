use Rattle.std.proofs.Common.{IsUtf8, ap, subst, sym, ◌∙◌}
use Rattle.dp_line.specs.World.{description_of}
use Rattle.explain_texts.specs.Known.{first_world}
use Rattle.explain_texts.specs.TextRows.{octets_read}
use Rattle.explain_texts.proofs.ReadRows.{places_are}
use Rattle.judge_texts.specs.Judging.{judged}
use Rattle.judge_texts.proofs.EndedText.{cut_judged, ends_judged, nothing_judged}
use Rattle.judge_texts.proofs.rows.judge_rows.Goals as goal

pub returns-in_default-clause-judged : goal.returns-in_default-clause-judged
returns-in_default-clause-judged g c = (
  nothing_judged (judged c.args.choice.now (description_of c.args.line.now) (octets_read c.args.rows.now.text)) (g.W.Write.contents c.args.writer.now),
  λ text. c.in_default.ensures.cases.0 (subst IsUtf8 (sym c.row.ensures.row) text),
)

pub returns-in_default-open_line-clause-judged : goal.returns-in_default-open_line-clause-judged
returns-in_default-open_line-clause-judged g c =
    nothing_judged (judged c.args.choice.now (description_of c.args.line.now) (octets_read c.args.rows.now.text)) (g.W.Write.contents c.args.writer.now)

pub returns-in_default-new-clause-judged : goal.returns-in_default-new-clause-judged
returns-in_default-new-clause-judged g c =
    nothing_judged (judged c.args.choice.now (description_of c.args.line.now) (octets_read c.args.rows.now.text)) (g.W.Write.contents c.args.writer.now)

pub judge_entries-requires-clause-opened : goal.judge_entries-requires-clause-opened
judge_entries-requires-clause-opened g c =
    let line = description_of c.args.line.now in
    ap (λ s. s.world) (c.in-Ok-open_line.ensures.opened c.requires.opens)
    ∙ ap (first_world line) (places_are line c.in-Ok.header.now c.row.result.now c.args.rows.now.text.row c.in-Ok.ensures.cases.0 c.row.ensures.row c.row.ensures.no_lf)

pub returns-in-Ok-judge_entries-clause-judged : goal.returns-in-Ok-judge_entries-clause-judged
returns-in-Ok-judge_entries-clause-judged g c =
    let text = c.judge_entries.new.rows.text in
    ends_judged c.args.choice.now (description_of c.args.line.now) (octets_read text) text.row c.in-Ok-judge_entries.verdict c.judge_entries.new.judge
    (g.W.Write.contents c.args.writer.now) (g.W.Write.contents c.judge_entries.new.writer) (g.W.Write.contents c.end_rows.new.writer) c.end_rows.result
    c.in-Ok-judge_entries.ensures.judged (rw c.row-in-Ok-judge_entries.ensures.row at c.end_rows.ensures)

pub returns-clause-judged : goal.returns-clause-judged
returns-clause-judged g c =
    let text = c.judge_entries.new.rows.text in
    cut_judged c.args.choice.now (description_of c.args.line.now) (octets_read text) text.row c.judge_entries.new.judge
    (g.W.Write.contents c.args.writer.now) (g.W.Write.contents c.judge_entries.new.writer) c.in-Err.fault c.in-Err.ensures.judged
