-- How many digits a number has.
use Rattle.std.proofs.Common.{◌≡◌, ℕ, ◌+◌, ◌<◌, ◌≤◌, ◌^◌, ◌/◌, ◌%◌, length, [], ◌∷◌, ◌∙◌, ap, arith, length-append}
use Rattle.std.specs.Fmt.{decimal}
use Rattle.std.proofs.lemmas.Fmt.{decimal_digit, decimal_step, length-decimal-le}

pub one : (n : ℕ) → n < 10 → length (decimal n) ≡ 1
one n small = ap length (decimal_digit n small)

pub one_more : (n k : ℕ) → 10 ≤ n → n < 2 ^ 64 → length (decimal (n / 10)) ≡ k → length (decimal n) ≡ k + 1
one_more n k low high front =
    ap length (decimal_step n low high) ∙ length-append (decimal (n / 10)) ((48 + n % 10) ∷ []) ∙ ap (λ (i : ℕ). i + 1) front

pub twenty_at_most : (n : ℕ) → n < 2 ^ 64 → length (decimal n) ≤ 20
twenty_at_most n small = length-decimal-le 20 n (omega arith) (omega arith) small
