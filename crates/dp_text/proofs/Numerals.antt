-- Numbers that are too large.
use Rattle.std.proofs.Common.{◌≡◌, ℕ, ◌+◌, ◌-◌, ◌*◌, ◌≤◌, ◌<◌, Bool, true, false, ◌&&◌, cond, leb, List, [], ◌∷◌, length, get_or, Some, None, refl, arith}
use Rattle.std.specs.Char.{digit_value, is_ascii_digit}
use Rattle.std.specs.Str.{all_ascii_digits}
use Rattle.std.specs.Str.Parse.{digits_value, digits_value_after}
use Rattle.std.proofs.lemmas.Bool.Decides.{nat_tests}

-- more digits make no number smaller
grows : (n : ℕ) (digits : List ℕ) → n ≤ digits_value_after 10 n digits
grows n [] = omega arith
grows n (digit ∷ digits) = let more = grows (n * 10 + digit_value digit) digits in omega (arith, more)

value_of_digit : (digit : ℕ) → is_ascii_digit digit ≡ true → digit_value digit ≡ digit - 48
value_of_digit digit is = grind (arith, nat_tests)

none_above : (digits : Bool) (value most : ℕ) → most < value → None ≡ cond (digits && leb value most) (Some value) None
none_above true value most above = grind (arith, nat_tests)
none_above false value most above = refl

pub too_large : (most value : ℕ) (left word : List ℕ) → digits_value_after 10 value left ≡ digits_value 10 word → 1 ≤ length left
    → is_ascii_digit (get_or left 0 0) ≡ true → most < value * 10 + (get_or left 0 0 - 48)
    → None ≡ cond (all_ascii_digits word && leb (digits_value 10 word) most) (Some (digits_value 10 word)) None
too_large most value [] word whole filled is above = absurd (omega arith)
too_large most value (digit ∷ left) word whole filled is above =
    let least = grows (value * 10 + digit_value digit) left in
    let here = value_of_digit digit is in
    none_above (all_ascii_digits word) (digits_value 10 word) most (omega (arith, least, here, whole, above))
