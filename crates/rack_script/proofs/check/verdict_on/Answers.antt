use Rattle.std.proofs.Common.{ℕ, List, None, Some, Result, Err, refl, subst, sym, ◌∙◌, rules}
use Rattle.dp_audit.specs.declared.fault.AuditFault.{AuditFault}
use Rattle.dp_audit.specs.declared.fault.AuditFault.TheVariants.{BadLine}
use Rattle.explain_texts.specs.ExplainedRows.{Reads}
use Rattle.explain_texts.specs.TextRows.{octets_read}
use Rattle.rack_script.proofs.Checked.{found_opens}
use Rattle.rack_script.proofs.FirstRow.{decides_if_ok, first_line, named_by, none_if_ok, only_line, verdict_is}
use Rattle.rack_script.proofs.check.verdict_on.Goals as goal

pub check_rows-requires-clause-opens : goal.check_rows-requires-clause-opens
check_rows-requires-clause-opens g c =
    found_opens c.row.result.now c.args.rack.now.lines.items c.in-Some.line.now (search rules) c.requires.opens

pub returns-in-Some-clause-verdict : goal.returns-in-Some-clause-verdict
returns-in-Some-clause-verdict g c =
    let rack = c.args.rack.now in
    let text = c.complete_row.new.self.text in
    let new = c.check_rows.new.rows.text in
    let reads = c.complete_row.ensures.reads in
    subst (λ (v : Result ℕ AuditFault). Reads v new.row c.check_rows.result)
    (sym (verdict_is rack.workers rack.lines.items (octets_read new) text.row (Some c.in-Some.line.now)
    (first_line text new (reads.same_past ∙ c.requires.first) reads.no_lf c.check_rows.ensures.begins c.check_rows.ensures.unread)
    (named_by rack.lines.items c.row.result.now text.row _ c.row.ensures.row (search rules))))
    c.check_rows.ensures.verdict

pub returns-in-Some-clause-decided : goal.returns-in-Some-clause-decided
returns-in-Some-clause-decided g c =
    let rack = c.args.rack.now in
    let text = c.complete_row.new.self.text in
    let new = c.check_rows.new.rows.text in
    let reads = c.complete_row.ensures.reads in
    decides_if_ok c.check_rows.result rack.workers rack.lines.items _ _ c.args.rows.now.text text new (Some c.in-Some.line.now)
    (record { first = reads.same_past ∙ c.requires.first; no_lf = reads.no_lf; kept = c.complete_row.ensures.kept; end = c.in-Ok.ensures.end })
    (first_line text new (reads.same_past ∙ c.requires.first) reads.no_lf c.check_rows.ensures.begins c.check_rows.ensures.unread)
    (named_by rack.lines.items c.row.result.now text.row _ c.row.ensures.row (search rules)) c.check_rows.ensures.unread c.check_rows.ensures.decided

pub returns-in-None-clause-verdict : goal.returns-in-None-clause-verdict
returns-in-None-clause-verdict g c =
    let rack = c.args.rack.now in
    let text = c.complete_row.new.self.text in
    let reads = c.complete_row.ensures.reads in
    subst (λ (v : Result ℕ AuditFault). Reads v text.row c.readable.result)
    (sym (verdict_is rack.workers rack.lines.items (octets_read text) text.row None (only_line text (reads.same_past ∙ c.requires.first) reads.no_lf)
    (named_by rack.lines.items c.row.result.now text.row _ c.row.ensures.row (search rules))))
    (subst (λ (r : List ℕ). Reads (Err (BadLine 1)) r c.readable.result) c.row-in-None.ensures.row c.readable.ensures.verdict)

pub returns-in-None-clause-decided : goal.returns-in-None-clause-decided
returns-in-None-clause-decided g c =
    let rack = c.args.rack.now in
    let text = c.complete_row.new.self.text in
    let reads = c.complete_row.ensures.reads in
    decides_if_ok c.readable.result rack.workers rack.lines.items _ _ c.args.rows.now.text text text None
    (record { first = reads.same_past ∙ c.requires.first; no_lf = reads.no_lf; kept = c.complete_row.ensures.kept; end = c.in-Ok.ensures.end })
    (only_line text (reads.same_past ∙ c.requires.first) reads.no_lf)
    (named_by rack.lines.items c.row.result.now text.row _ c.row.ensures.row (search rules)) (λ part. refl) (λ whole. none_if_ok c.readable.result _ (octets_read text))
