-- How many digits ten times a number has.
use Rattle.std.proofs.Common.{◌≡◌, ℕ, ◌+◌, ◌*◌, ◌<◌, ◌^◌, ◌/◌, ◌%◌, length, [], ◌∷◌, ◌∙◌, ap, sym, arith, length-append}
use Rattle.std.specs.Fmt.{decimal}
use Rattle.std.proofs.lemmas.Fmt.{decimal_digit, decimal_step_wide}

pub one_more : (n k : ℕ) → 0 < n → n < 2 ^ 64 → k ≡ length (decimal n) → length (decimal (10 * n)) ≡ k + 1
one_more n k some small front =
    let whole : 10 * n / 10 ≡ n = omega arith in
    ap length (decimal_step_wide (10 * n) (omega arith) (omega arith))
    ∙ length-append (decimal (10 * n / 10)) ((48 + 10 * n % 10) ∷ [])
    ∙ ap (λ (m : ℕ). length (decimal m) + 1) whole
    ∙ ap (λ (m : ℕ). m + 1) (sym front)

pub zero_has_one : (n : ℕ) → n ≡ 0 → length (decimal (10 * n)) ≡ 1
zero_has_one n none = ap (λ (m : ℕ). length (decimal (10 * m))) none ∙ ap length (decimal_digit 0 (omega arith))
