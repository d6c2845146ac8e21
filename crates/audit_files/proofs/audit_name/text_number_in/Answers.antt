use Rattle.std.proofs.Common.{◌≡◌, ℕ, Option, sym, subst, arith}
use Rattle.std.specs.Prelude.{Some, None}
use Rattle.audit_files.specs.ReadNames.{IsReadFrom, IsTextNumber, part_digits, text_number_text}
use Rattle.audit_files.proofs.Numbers.{is_split, not_split, point, splits}
use Rattle.audit_files.proofs.audit_name.text_number_in.Goals as goal

abbrev Numbers : Type 0
Numbers = Option (ℕ × Option ℕ)

pub returns-in_err-number_in-in-None : goal.returns-in_err-number_in-in-None
returns-in_err-number_in-in-None c =
    subst (λ (r : Numbers). IsReadFrom text_number_text IsTextNumber c.args.words.now r) (sym c.from_residual.ensures) none
  where
    none : IsReadFrom text_number_text IsTextNumber c.args.words.now None
    none (k, None) is written = c.in_err-number_in-in-None.ensures k is written
    none (k, Some p) is written = is_split 46 (omega arith) point c.args.words.now (part_digits p) k is.0 c.in-None.ensures.cases written

pub returns-in_err-number_in-in-Some : goal.returns-in_err-number_in-in-Some
returns-in_err-number_in-in-Some c =
    subst (λ (r : Numbers). IsReadFrom text_number_text IsTextNumber c.args.words.now r) (sym c.from_residual-in_err-number_in-in-Some.ensures) none
  where
    none : IsReadFrom text_number_text IsTextNumber c.args.words.now None
    none (k, None) is written = not_split 46 (omega arith) point c.args.words.now k is (c.in-Some.number, c.in-Some.part) c.in-Some.ensures.cases written
    none (k, Some p) is written = c.in_err-number_in-in-Some.ensures k is.0
        (splits 46 (omega arith) point c.args.words.now (part_digits p) k is.0 (c.in-Some.number, c.in-Some.part) c.in-Some.ensures.cases written).0

pub returns-in_err-part_in-in-Some : goal.returns-in_err-part_in-in-Some
returns-in_err-part_in-in-Some c =
    subst (λ (r : Numbers). IsReadFrom text_number_text IsTextNumber c.args.words.now r) (sym c.from_residual-in_err-part_in-in-Some.ensures) none
  where
    none : IsReadFrom text_number_text IsTextNumber c.args.words.now None
    none (k, None) is written = not_split 46 (omega arith) point c.args.words.now k is (c.in-Some.number, c.in-Some.part) c.in-Some.ensures.cases written
    none (k, Some p) is written = c.in_err-part_in-in-Some.ensures p is.1
        (splits 46 (omega arith) point c.args.words.now (part_digits p) k is.0 (c.in-Some.number, c.in-Some.part) c.in-Some.ensures.cases written).1
