use Rattle.std.proofs.Common.{None, Some, refl, ◌∙◌, rules}
use Rattle.explain_texts.specs.TextRows.{octets_read}
use Rattle.rack_file.specs.Rack.{rack_described}
use Rattle.judge_texts.specs.Judging.{judged_on}
use Rattle.judge_texts.proofs.EndedText.{not_read}
use Rattle.judge_texts.proofs.FirstRow.{decides_if_ok, first_line, found_opens, judged_is, named_by, none_if_ok, only_line}
use Rattle.judge_texts.proofs.judging.judge_on.Goals as goal

pub judge_rows-requires-clause-opens : goal.judge_rows-requires-clause-opens
judge_rows-requires-clause-opens g c =
    found_opens c.row.result.now c.args.rack.now.lines.items c.in-Some.line.now (search rules) c.requires.opens

pub returns-in-Err-clause-judged : goal.returns-in-Err-clause-judged
returns-in-Err-clause-judged g c =
    let text = c.complete_row.new.self.text in
    not_read (judged_on c.args.choice.now (rack_described c.args.rack.now) (octets_read text)) text.row (g.W.Write.contents c.args.writer.now) c.in-Err.fault c.in-Err.ensures.named

pub returns-in-Some-clause-judged : goal.returns-in-Some-clause-judged
returns-in-Some-clause-judged g c =
    let rack = c.args.rack.now in
    let text = c.complete_row.new.self.text in
    let new = c.judge_rows.new.rows.text in
    let reads = c.complete_row.ensures.reads in
    rw (judged_is c.args.choice.now rack.workers rack.lines.items (octets_read new) text.row (Some c.in-Some.line.now)
    (first_line text new (reads.same_past ∙ c.requires.first) reads.no_lf c.judge_rows.ensures.begins c.judge_rows.ensures.unread)
    (named_by rack.lines.items c.row.result.now text.row (Some c.in-Some.line.now) c.row.ensures.row (search rules)))
    c.judge_rows.ensures.judged

pub returns-in-Some-clause-decided : goal.returns-in-Some-clause-decided
returns-in-Some-clause-decided g c =
    let rack = c.args.rack.now in
    let text = c.complete_row.new.self.text in
    let new = c.judge_rows.new.rows.text in
    let reads = c.complete_row.ensures.reads in
    decides_if_ok c.judge_rows.result c.args.choice.now rack.workers rack.lines.items _ _ c.args.rows.now.text text new (Some c.in-Some.line.now)
    (record { first = reads.same_past ∙ c.requires.first; no_lf = reads.no_lf; kept = c.complete_row.ensures.kept; end = c.in-Ok.ensures.end })
    (first_line text new (reads.same_past ∙ c.requires.first) reads.no_lf c.judge_rows.ensures.begins c.judge_rows.ensures.unread)
    (named_by rack.lines.items c.row.result.now text.row (Some c.in-Some.line.now) c.row.ensures.row (search rules)) c.judge_rows.ensures.unread c.judge_rows.ensures.decided

pub returns-in-None-clause-judged : goal.returns-in-None-clause-judged
returns-in-None-clause-judged g c =
    let rack = c.args.rack.now in
    let text = c.complete_row.new.self.text in
    let reads = c.complete_row.ensures.reads in
    rw (judged_is c.args.choice.now rack.workers rack.lines.items (octets_read text) text.row None (only_line text (reads.same_past ∙ c.requires.first) reads.no_lf)
    (named_by rack.lines.items c.row.result.now text.row None c.row.ensures.row (search rules)))
    (rw c.row-in-None.ensures.row at c.judge_no_line.ensures)

pub returns-in-None-clause-decided : goal.returns-in-None-clause-decided
returns-in-None-clause-decided g c =
    let rack = c.args.rack.now in
    let text = c.complete_row.new.self.text in
    let reads = c.complete_row.ensures.reads in
    decides_if_ok c.judge_no_line.result c.args.choice.now rack.workers rack.lines.items _ _ c.args.rows.now.text text text None
    (record { first = reads.same_past ∙ c.requires.first; no_lf = reads.no_lf; kept = c.complete_row.ensures.kept; end = c.in-Ok.ensures.end })
    (only_line text (reads.same_past ∙ c.requires.first) reads.no_lf)
    (named_by rack.lines.items c.row.result.now text.row None c.row.ensures.row (search rules)) (λ part. refl) (λ whole. none_if_ok c.judge_no_line.result c.args.choice.now _ (octets_read text))
