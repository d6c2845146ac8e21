use Rattle.std.proofs.Common.{ℕ, List, None, Some, Err, refl, subst, ◌∙◌, rules}
use Rattle.dp_audit.specs.declared.fault.AuditFault.TheVariants.{BadLine}
use Rattle.explain_texts.specs.ExplainedRows.{Reads}
use Rattle.explain_texts.specs.TextRows.{octets_read}
use Rattle.rack_file.specs.Rack.{rack_described}
use Rattle.rack_script.specs.Checks.{checked_on}
use Rattle.rack_script.specs.Explanations.{explained_on}
use Rattle.rack_script.proofs.Checked.{found_opens}
use Rattle.rack_script.proofs.FirstRow.{decides_if_ok, explanation_is, first_line, named_by, none_if_ok, only_line, verdict_is}
use Rattle.rack_script.proofs.Reportings.{not_read}
use Rattle.rack_script.proofs.explain.explain_on.Goals as goal

pub returns-in-Err-clause-explained : goal.returns-in-Err-clause-explained
returns-in-Err-clause-explained g c =
    let rack = rack_described c.args.rack.now in
    let text = c.complete_row.new.self.text in
    not_read g.T.TakesEntries.takes (checked_on rack (octets_read text)) text.row (explained_on rack (octets_read text) c.args.choice.now) c.args.receiver.now c.in-Err.fault c.of_read.result c.in-Err.ensures.named c.of_read.ensures

pub explain_line-requires-clause-opens : goal.explain_line-requires-clause-opens
explain_line-requires-clause-opens g c =
    found_opens c.row.result.now c.args.rack.now.lines.items c.in-Some.line.now (search rules) c.requires.opens

pub returns-in-Some-clause-explained : goal.returns-in-Some-clause-explained
returns-in-Some-clause-explained g c =
    let rack = c.args.rack.now in
    let text = c.complete_row.new.self.text in
    let new = c.explain_line.new.rows.text in
    let reads = c.complete_row.ensures.reads in
    let line = first_line text new (reads.same_past ∙ c.requires.first) reads.no_lf c.explain_line.ensures.begins c.explain_line.ensures.unread in
    let named = named_by rack.lines.items c.row.result.now text.row (Some c.in-Some.line.now) c.row.ensures.row (search rules) in
    rw (
      verdict_is rack.workers rack.lines.items (octets_read new) text.row (Some c.in-Some.line.now) line named,
      explanation_is rack.workers rack.lines.items (octets_read new) text.row (Some c.in-Some.line.now) c.args.choice.now line named,
    )
    c.explain_line.ensures.explained

pub returns-in-Some-clause-decided : goal.returns-in-Some-clause-decided
returns-in-Some-clause-decided g c =
    let rack = c.args.rack.now in
    let text = c.complete_row.new.self.text in
    let new = c.explain_line.new.rows.text in
    let reads = c.complete_row.ensures.reads in
    decides_if_ok c.explain_line.result rack.workers rack.lines.items _ _ c.args.rows.now.text text new (Some c.in-Some.line.now)
    (record { first = reads.same_past ∙ c.requires.first; no_lf = reads.no_lf; kept = c.complete_row.ensures.kept; end = c.in-Ok.ensures.end })
    (first_line text new (reads.same_past ∙ c.requires.first) reads.no_lf c.explain_line.ensures.begins c.explain_line.ensures.unread)
    (named_by rack.lines.items c.row.result.now text.row (Some c.in-Some.line.now) c.row.ensures.row (search rules)) c.explain_line.ensures.unread c.explain_line.ensures.decided

pub returns-in-None-clause-explained : goal.returns-in-None-clause-explained
returns-in-None-clause-explained g c =
    let rack = c.args.rack.now in
    let text = c.complete_row.new.self.text in
    let reads = c.complete_row.ensures.reads in
    let line = only_line text (reads.same_past ∙ c.requires.first) reads.no_lf in
    let named = named_by rack.lines.items c.row.result.now text.row None c.row.ensures.row (search rules) in
    let known = subst (λ (r : List ℕ). Reads (Err (BadLine 1)) r c.readable.result) c.row-in-None.ensures.row c.readable.ensures.verdict in
    rw (
      verdict_is rack.workers rack.lines.items (octets_read text) text.row None line named,
      explanation_is rack.workers rack.lines.items (octets_read text) text.row None c.args.choice.now line named,
    )
    (c.report_rows_to.ensures.reported (Err (BadLine 1)) text.row known)

pub returns-in-None-clause-decided : goal.returns-in-None-clause-decided
returns-in-None-clause-decided g c =
    let rack = c.args.rack.now in
    let text = c.complete_row.new.self.text in
    let reads = c.complete_row.ensures.reads in
    decides_if_ok c.report_rows_to.result rack.workers rack.lines.items _ _ c.args.rows.now.text text text None
    (record { first = reads.same_past ∙ c.requires.first; no_lf = reads.no_lf; kept = c.complete_row.ensures.kept; end = c.in-Ok.ensures.end })
    (only_line text (reads.same_past ∙ c.requires.first) reads.no_lf)
    (named_by rack.lines.items c.row.result.now text.row None c.row.ensures.row (search rules)) (λ part. refl) (λ whole. none_if_ok c.report_rows_to.result _ (octets_read text))
