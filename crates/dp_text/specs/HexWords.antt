-- detail
-- Octets in words of hex digits (own).
use Rattle.std.specs.Prelude.{ℕ, ◌+◌, ◌*◌, ◌%◌, ◌==◌, if◌then◌else◌, Bool, List, [], ◌∷◌, ◌++◌, length, is_some, Option, Some, None, option_map, option_and_then, unwrap_or}
use Rattle.std.specs.Result.{result_ok}
use Rattle.hex.specs.Hex.{decode_of, hex_digit_value}
use Rattle.dp_text.specs.Words.{words_of}

-- the octets of a word of whole pairs of hex digits in either case; None if the word is empty or is not whole pairs
abbrev pub octets_of_word : List ℕ → Option (List ℕ)
octets_of_word word = if length word == 0 then None else result_ok (decode_of word)

-- the octets of words, joined
abbrev pub octets_of_words : List (List ℕ) → Option (List ℕ)
octets_of_words [] = Some []
octets_of_words (word ∷ words) =
    option_and_then (λ octets. option_map (λ more. octets ++ more) (octets_of_words words)) (octets_of_word word)

-- ---- the same octets, digit by digit

-- the value of a hex digit in either case, or 255 if it is not a hex digit
abbrev pub digit_value : ℕ → ℕ
digit_value digit = unwrap_or (hex_digit_value digit) 255

-- the octet of two digits
abbrev pub pair_octet : ℕ → ℕ → ℕ
pair_octet high low = (16 * digit_value high + digit_value low) % 256

-- the octets that digits spell after this high digit, or after none; spaces between pairs are skipped
abbrev pub spelt_behind : Option ℕ → List ℕ → List ℕ
spelt_behind high [] = []
spelt_behind None (digit ∷ digits) =
    if digit == 32 then spelt_behind None digits else spelt_behind (Some digit) digits
spelt_behind (Some high) (low ∷ digits) = pair_octet high low ∷ spelt_behind None digits

-- this text may follow a pair: after the digits 00, it makes a text of hex words
abbrev pub goes_on : List ℕ → Bool
goes_on rest = is_some (octets_of_words (words_of (48 ∷ 48 ∷ rest)))
