use Rattle.std.proofs.Common.{◌≡◌, ℕ, List, ◌++◌, Option, sym, subst, ap, ◌∙◌}
use Rattle.std.specs.Fmt.{decimal}
use Rattle.audit_files.specs.ReadNames.{IsFileNumber, IsReadFrom, part_digits}
use Rattle.audit_files.proofs.Numbers.{follows_zeros, is_part, not_parsed, same_number}
use Rattle.audit_files.proofs.audit_name.part_in.Goals as goal

pub returns-in_err-part : goal.returns-in_err-part
returns-in_err-part c =
    subst (λ (r : Option ℕ). IsReadFrom part_digits IsFileNumber c.args.digits.now r) (sym c.from_residual.ensures)
    (not_parsed c.args.digits.now c.parse.result c.parse.ensures.value.0 c.in_err-part.ensures.value)

pub returns-in_err-rest : goal.returns-in_err-rest
returns-in_err-rest c =
    let bs = c.args.digits.now in
    let part = c.in_ok-part.part in
    subst (λ (r : Option ℕ). IsReadFrom part_digits IsFileNumber bs r) (sym c.from_residual-in_err-rest.ensures)
    (λ n is written.
    let e = is_part bs c.parse.result part c.parse.ensures.value.0 c.in_ok-part.ensures.value n is written in
    c.in_err-rest.ensures.cases (decimal part)
    (subst (λ (m : ℕ). bs ≡ part_digits m) e written ∙ ap (λ (l : List ℕ). l ++ decimal part) (sym c.leading_zeros.ensures)))

pub returns-in_err-number_in : goal.returns-in_err-number_in
returns-in_err-number_in c =
    let bs = c.args.digits.now in
    let part = c.in_ok-part.part in
    let rest = c.in_ok-rest.rest.now in
    subst (λ (r : Option ℕ). IsReadFrom part_digits IsFileNumber bs r) (sym c.from_residual-in_err-number_in.ensures)
    (λ n is written.
    let e = is_part bs c.parse.result part c.parse.ensures.value.0 c.in_ok-part.ensures.value n is written in
    let follows = follows_zeros bs c.leading_zeros.result.now rest part c.leading_zeros.ensures c.in_ok-rest.ensures.cases (subst (λ (m : ℕ). bs ≡ part_digits m) e written) in
    c.in_err-number_in.ensures n is (subst (λ (m : ℕ). rest ≡ decimal m) (sym e) follows))

pub returns-else-branch-part : goal.returns-else-branch-part
returns-else-branch-part c = λ n is written.
    let bs = c.args.digits.now in
    let part = c.in_ok-part.part in
    let rest = c.in_ok-rest.rest.now in
    let e = is_part bs c.parse.result part c.parse.ensures.value.0 c.in_ok-part.ensures.value n is written in
    let follows = follows_zeros bs c.leading_zeros.result.now rest part c.leading_zeros.ensures c.in_ok-rest.ensures.cases (subst (λ (m : ℕ). bs ≡ part_digits m) e written) in
    let found = c.in_ok-number_in.ensures in
    c.if-branch-part.false (same_number c.in_ok-number_in.field-0 part found.0 (subst IsFileNumber e is) rest found.1 follows)
