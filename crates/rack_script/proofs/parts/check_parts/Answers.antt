use Rattle.std.proofs.Common.{List, ℕ, sym, ap, subst, ◌∙◌}
use Rattle.dp_audit.specs.declared.fault.AuditFault.TheVariants as faults
use Rattle.explain_texts.specs.TextRows.{octets_read}
use Rattle.explain_texts.proofs.ReadEntries.{between_rows, part_next, whole_next}
use Rattle.explain_texts.proofs.ReadRows.{row_since}
use Rattle.audit_parts.specs.Parts.{end_checked}
use Rattle.rack_script.proofs.CheckedParts.{IsBehindRows, at_end, decided_at_wrong, with_row, wrong_at}
use Rattle.rack_script.proofs.parts.check_parts.Goals as goal

pub returns-in-Ok-false-clause-verdict : goal.returns-in-Ok-false-clause-verdict
returns-in-Ok-false-clause-verdict g c =
    let l = c.loop in
    let after = c.read_row.new.self.text in
    c.end.ensures
    ∙ ap (end_checked l.check) c.row.ensures.row
    ∙ at_end c.args.check.now (octets_read l.rows.text) after.row (octets_read after) l.check l.invariant.right c.read_row.ensures.reads.no_lf
    (part_next l.rows.text after _ _ l.invariant.between c.read_row.ensures.reads (sym c.in-Ok-false.ensures.whole ∙ c.in-Ok-false.field-0-test))

pub returns-in-Err-BadLine-clause-verdict : goal.returns-in-Err-BadLine-clause-verdict
returns-in-Err-BadLine-clause-verdict g c =
    let l = c.loop in
    let after = c.read_row.new.self.text in
    let is = c.in-Err-BadLine.row-is in
    let found =
    wrong_at c.args.check.now (octets_read l.rows.text) after.row (octets_read after) l.check (faults.BadLine c.in-Err-BadLine.row) l.invariant.right c.read_row.ensures.reads.no_lf
    ((rw (c.in-Err-BadLine.field-0-is, c.row-in-loop.ensures.row) at c.in-Err-BadLine.ensures.err) (λ e. absurd cc))
    (whole_next l.rows.text after _ _ l.invariant.between c.read_row.ensures.reads (sym c.in-Ok-true.ensures.whole ∙ c.in-Ok-true.field-0-test)) in
    cc

pub returns-in-Err-BadLine-clause-decided : goal.returns-in-Err-BadLine-clause-decided
returns-in-Err-BadLine-clause-decided g c =
    let l = c.loop in
    let after = c.read_row.new.self.text in
    decided_at_wrong c.args.check.now _ _ c.args.rows.now.text after (octets_read l.rows.text) after.row l.check (faults.BadLine c.in-Err-BadLine.row) c.requires
    (row_since _ c.args.rows.now.text _ l.rows.text _ after l.invariant.since c.read_row.ensures.reads) l.invariant.right c.read_row.ensures.reads.no_lf
    ((rw (c.in-Err-BadLine.field-0-is, c.row-in-loop.ensures.row) at c.in-Err-BadLine.ensures.err) (λ e. absurd cc))
    (whole_next l.rows.text after _ _ l.invariant.between c.read_row.ensures.reads (sym c.in-Ok-true.ensures.whole ∙ c.in-Ok-true.field-0-test))

pub returns-in-Err-NotThePolicy-clause-verdict : goal.returns-in-Err-NotThePolicy-clause-verdict
returns-in-Err-NotThePolicy-clause-verdict g c =
    let l = c.loop in
    let after = c.read_row.new.self.text in
    rw c.in-Err-NotThePolicy.row-is
    (wrong_at c.args.check.now (octets_read l.rows.text) after.row (octets_read after) l.check (faults.NotThePolicy c.in-Err-NotThePolicy.row) l.invariant.right c.read_row.ensures.reads.no_lf
    ((rw (c.in-Err-NotThePolicy.field-0-is, c.row-in-loop.ensures.row) at c.in-Err-NotThePolicy.ensures.err) (λ e. absurd cc))
    (whole_next l.rows.text after _ _ l.invariant.between c.read_row.ensures.reads (sym c.in-Ok-true.ensures.whole ∙ c.in-Ok-true.field-0-test)))

pub returns-in-Err-NotThePolicy-clause-decided : goal.returns-in-Err-NotThePolicy-clause-decided
returns-in-Err-NotThePolicy-clause-decided g c =
    let l = c.loop in
    let after = c.read_row.new.self.text in
    decided_at_wrong c.args.check.now _ _ c.args.rows.now.text after (octets_read l.rows.text) after.row l.check (faults.NotThePolicy c.in-Err-NotThePolicy.row) c.requires
    (row_since _ c.args.rows.now.text _ l.rows.text _ after l.invariant.since c.read_row.ensures.reads) l.invariant.right c.read_row.ensures.reads.no_lf
    ((rw (c.in-Err-NotThePolicy.field-0-is, c.row-in-loop.ensures.row) at c.in-Err-NotThePolicy.ensures.err) (λ e. absurd cc))
    (whole_next l.rows.text after _ _ l.invariant.between c.read_row.ensures.reads (sym c.in-Ok-true.ensures.whole ∙ c.in-Ok-true.field-0-test))

pub loop-preserved : goal.loop-preserved
loop-preserved g c =
    let l = c.loop in
    let after = c.read_row.new.self.text in
    let first = c.args.check.now in
    let whole = sym c.in-Ok-true.ensures.whole ∙ c.in-Ok-true.field-0-test in
    record {
      right =
          subst (λ (t : List ℕ). IsBehindRows first t c.take_row.new.self) (sym (whole_next l.rows.text after _ _ l.invariant.between c.read_row.ensures.reads whole))
          (with_row first (octets_read l.rows.text) after.row l.check c.take_row.new.self c.in-Ok.field-0 l.invariant.right c.read_row.ensures.reads.no_lf
          (rw c.row-in-loop.ensures.row at c.in-Ok.ensures.ok));
      between = between_rows after whole;
      since = row_since _ c.args.rows.now.text _ l.rows.text _ after l.invariant.since c.read_row.ensures.reads;
    }
