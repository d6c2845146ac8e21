-- Numbers in plain decimal.
use Rattle.std.proofs.Common.{◌≡◌, ℕ, ◌+◌, ◌/◌, ◌%◌, ◌^◌, ◌≤◌, ◌<◌, [], ◌∷◌, ◌++◌, length, length-append, ap, ◌∙◌}
use Rattle.std.specs.Fmt.{decimal}
use Rattle.std.proofs.lemmas.Fmt.{decimal_digit, decimal_step}

pub last_digit : (n : ℕ) → 10 ≤ n → n < 2 ^ 64 → decimal n ≡ decimal (n / 10) ++ (48 + n % 10) ∷ []
last_digit n large small = decimal_step n large small

pub one_digit_more : (n : ℕ) → 10 ≤ n → n < 2 ^ 64 → length (decimal n) ≡ length (decimal (n / 10)) + 1
one_digit_more n large small = ap length (last_digit n large small) ∙ length-append (decimal (n / 10)) ((48 + n % 10) ∷ [])

-- a digit, and a number by its last digit
pub ruleset by_last_digit = (decimal_digit, last_digit, one_digit_more)
