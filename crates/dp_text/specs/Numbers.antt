-- detail
-- Plain decimal numbers (own).
use Rattle.std.specs.Prelude.{ℕ, Bool, not, ◌&&◌, ◌||◌, ◌==◌, nat_le, if◌then◌else◌, List, length, slice_index, Option, Some, None}
use Rattle.std.specs.Str.{all_ascii_digits}
use Rattle.std.specs.Str.Parse.{digits_value}

-- digits without a sign and without a leading zero, except 0 itself
abbrev pub is_plain_decimal : List ℕ → Bool
is_plain_decimal word =
    all_ascii_digits word && not (length word == 0) && (length word == 1 || not (slice_index word 0 == 48))

-- the number, 0 to `most`, that a word is; None for any other word
abbrev pub number_to : ℕ → List ℕ → Option ℕ
number_to most word =
    if is_plain_decimal word && nat_le (digits_value 10 word) most then Some (digits_value 10 word) else None

-- an address, a line's number or a point
abbrev pub octet_number : List ℕ → Option ℕ
octet_number = number_to 255
