-- The table of hex digits, and the sum of two of its values.
use Rattle.std.proofs.Common.{◌≡◌, ℕ, zero, suc, ◌+◌, ◌-◌, ◌*◌, ◌%◌, ◌^◌, ◌<◌, ◌≤◌, ◌&&◌, List, [], ◌∷◌, ◌++◌, length, length-append, get_or, Option, Some, None, is_some, inl, inr, arith, refl, ap, ◌∙◌}
use Rattle.std.specs.Prelude.{nat_lt, unwrap_or, if◌then◌else◌}
use Rattle.std.proofs.lemmas.Bool.{cases_lt, cond-true, cond-false, lt-ltb, le-ltb}
use Rattle.std.proofs.lemmas.List.{get_or_append_left, get_or_push}
use Rattle.hex.specs.Hex.{hex_digit_value, is_hex_digit}
use Rattle.dp_text.specs.HexWords.{digit_value, pair_octet}
use Rattle.dp_text.specs.declared.hex_words.TheConstants.{VALUES}
use Rattle.dp_text.proofs.HexSpellings.{value_of_digit}

-- these values of the octets below n
unfoldable values_below : (ℕ → ℕ) → ℕ → List ℕ
values_below value zero = []
values_below value (suc n) = values_below value n ++ value n ∷ []

values_count : (value : ℕ → ℕ) (n : ℕ) → length (values_below value n) ≡ n
unfolding values_below
values_count value zero = refl
values_count value (suc n) = omega (arith, length-append (values_below value n) (value n ∷ []), values_count value n)

value_among : (value : ℕ → ℕ) (n digit : ℕ) → digit < n → get_or (values_below value n) digit 0 ≡ value digit
unfolding values_below
value_among value zero digit below = absurd (omega (arith, below))
value_among value (suc n) digit below = elim (cases_lt digit n) [
  | inl under ↦ get_or_append_left (values_below value n) (value n ∷ []) 0 digit (rw (values_count value n) under) ∙ value_among value n digit under
  | inr over ↦
      let same : n ≡ digit = omega (arith, below, over) in
      get_or_push (values_below value n) (value n) 0 digit (values_count value n ∙ same) ∙ ap value same
]

abbrev pub high_value : ℕ → ℕ
high_value digit = 16 * digit_value digit

abbrev pub low_value : ℕ → ℕ
low_value digit = if is_hex_digit digit then digit_value digit else 511

-- the value at a place of the table
value_in : ℕ → ℕ
value_in place = if nat_lt place 256 then high_value place else low_value (place - 256)

all_values : VALUES ≡ values_below value_in 512
unfolding values_below value_in
all_values = refl

value_at : (place : ℕ) → place < 512 → get_or VALUES place 0 ≡ value_in place
value_at place below = ap (λ (values : List ℕ). get_or values place 0) all_values ∙ value_among value_in 512 place below

pub high_at : (digit : ℕ) → digit < 256 → get_or VALUES digit 0 ≡ high_value digit
unfolding value_in
high_at digit below = value_at digit (omega (arith, below)) ∙ cond-true (nat_lt digit 256) (high_value digit) (low_value (digit - 256)) (lt-ltb digit 256 below)

pub low_at : (digit : ℕ) → digit < 256 → get_or VALUES (256 + digit) 0 ≡ low_value digit
unfolding value_in
low_at digit below =
    let place : 256 + digit - 256 ≡ digit = omega arith in
    value_at (256 + digit) (omega (arith, below))
    ∙ cond-false (nat_lt (256 + digit) 256) (high_value (256 + digit)) (low_value (256 + digit - 256)) (le-ltb (256 + digit) 256 (omega arith))
    ∙ ap low_value place

-- the sum of the two values in the table, by the value of each octet as a digit, or None if it is not a digit
sum_by : Option ℕ → Option ℕ → ℕ
sum_by high low = 16 * unwrap_or high 255 + (if is_some low then unwrap_or low 255 else 511)

octet_by : (high : ℕ) (low : Option ℕ) → (16 * high + (if is_some low then unwrap_or low 255 else 511)) % 256 ≡ (16 * high + unwrap_or low 255) % 256
octet_by high None = omega arith
octet_by high (Some value) = refl

pub sum_is_octet : (high low : ℕ) → (high_value high + low_value low) % 256 ≡ pair_octet high low
sum_is_octet high low = octet_by (digit_value high) (hex_digit_value low)

digits_by : (high low : Option ℕ) → ((value : ℕ) → high ≡ Some value → value < 16) → ((value : ℕ) → low ≡ Some value → value < 16)
    → nat_lt (sum_by high low) 256 ≡ (is_some high && is_some low)
unfolding sum_by
digits_by (Some first) (Some second) small small_low = lt-ltb (16 * first + second) 256 (omega (arith, small first refl, small_low second refl))
digits_by (Some first) None small small_low = le-ltb (16 * first + 511) 256 (omega arith)
digits_by None (Some second) small small_low = le-ltb (4080 + second) 256 (omega arith)
digits_by None None small small_low = refl

pub sum_is_small : (high low : ℕ) → nat_lt (high_value high + low_value low) 256 ≡ (is_hex_digit high && is_hex_digit low)
unfolding sum_by
sum_is_small high low =
    digits_by (hex_digit_value high) (hex_digit_value low) (λ value read. (value_of_digit high value read).1) (λ value read. (value_of_digit low value read).1)

value_by : (digit : ℕ) (value : Option ℕ) → hex_digit_value digit ≡ value → unwrap_or value 255 ≤ 255
value_by digit None read = omega arith
value_by digit (Some value) read = omega (arith, (value_of_digit digit value read).1)

low_by : (value : Option ℕ) → unwrap_or value 255 ≤ 255 → (if is_some value then unwrap_or value 255 else 511) ≤ 511
low_by None small = omega arith
low_by (Some value) small = omega (arith, small)

pub sum_fits : (high low : ℕ) → high_value high + low_value low < 2 ^ 32
sum_fits high low =
    let first = value_by high (hex_digit_value high) refl in
    let second = low_by (hex_digit_value low) (value_by low (hex_digit_value low) refl) in
    omega (arith, first, second)
