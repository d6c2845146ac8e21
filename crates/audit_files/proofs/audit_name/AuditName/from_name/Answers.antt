use Rattle.std.proofs.Common.{◌≡◌, Option, sym, subst}
use Rattle.audit_files.specs.declared.audit_name.AuditName.{AuditName}
use Rattle.audit_files.specs.AuditNames.{audit_name_text}
use Rattle.audit_files.specs.ReadNames.{IsFileName, IsReadFrom}
use Rattle.audit_files.proofs.Numbers.{between, no_ending, read_name}
use Rattle.audit_files.proofs.audit_name.AuditName.from_name.Goals as goal

pub returns-in_err-strip_suffix : goal.returns-in_err-strip_suffix
returns-in_err-strip_suffix c =
    subst (λ (r : Option AuditName). IsReadFrom audit_name_text IsFileName c.args.name.now r) (sym c.from_residual-in_err-strip_suffix.ensures)
    (λ name is written. no_ending c.args.name.now c.in_ok-strip_prefix.field-0.now c.in_ok-strip_prefix.ensures.cases c.in_err-strip_suffix.ensures.cases name written)

pub returns : goal.returns
returns c =
    let words = c.in_ok-strip_suffix.field-0.now in
    read_name c.args.name.now words (between c.args.name.now c.in_ok-strip_prefix.field-0.now words c.in_ok-strip_prefix.ensures.cases c.in_ok-strip_suffix.ensures.cases)
    c.numbers_in.result c.numbers_in.ensures
