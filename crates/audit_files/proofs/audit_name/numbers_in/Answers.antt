use Rattle.std.proofs.Common.{◌≡◌, ℕ, ◌<◌, ◌^◌, Option, sym, subst, arith}
use Rattle.audit_files.specs.declared.audit_name.AuditName.{AuditName}
use Rattle.audit_files.specs.ReadNames.{IsFileName, IsFileNumber, IsReadFrom, numbers_text, text_number_text}
use Rattle.audit_files.proofs.Numbers.{hyphen, is_split, splits}
use Rattle.audit_files.proofs.audit_name.numbers_in.Goals as goal

line_number : (name : AuditName) → IsFileName name → IsFileNumber name.line
line_number name is = (is.0.0, omega (arith, is.0.1))

pub returns-in_err-line : goal.returns-in_err-line
returns-in_err-line c =
    subst (λ (r : Option AuditName). IsReadFrom numbers_text IsFileName c.args.words.now r) (sym c.from_residual.ensures)
    (λ name is written. is_split 45 (omega arith) hyphen c.args.words.now (text_number_text (name.number, name.part)) name.line (line_number name is) c.in_err-line.ensures.cases written)

pub returns-in_err-line-2 : goal.returns-in_err-line-2
returns-in_err-line-2 c =
    subst (λ (r : Option AuditName). IsReadFrom numbers_text IsFileName c.args.words.now r) (sym c.from_residual-in_err-line-2.ensures)
    (λ name is written. c.in_err-line-2.ensures name.line is.0
    (splits 45 (omega arith) hyphen c.args.words.now (text_number_text (name.number, name.part)) name.line (line_number name is) (c.in_ok-line.line, c.in_ok-line.rest) c.in_ok-line.ensures.cases written).0)

pub returns-in_err-number : goal.returns-in_err-number
returns-in_err-number c =
    subst (λ (r : Option AuditName). IsReadFrom numbers_text IsFileName c.args.words.now r) (sym c.from_residual-in_err-number.ensures)
    (λ name is written. c.in_err-number.ensures (name.number, name.part) is.1
    (splits 45 (omega arith) hyphen c.args.words.now (text_number_text (name.number, name.part)) name.line (line_number name is) (c.in_ok-line.line, c.in_ok-line.rest) c.in_ok-line.ensures.cases written).1)
