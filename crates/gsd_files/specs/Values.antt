-- detail
-- The values of a GSD file: numbers, octets and names (GSD specification, revision 3; own in detail).
use Rattle.std.specs.Prelude.{ℕ, ◌+◌, ◌-◌, ◌*◌, ◌/◌, ◌%◌, ◌==◌, Bool, false, ◌&&◌, ◌||◌, nat_le, nat_lt, if◌then◌else◌, List, [], ◌∷◌, ◌++◌, length, take, drop, Option, Some, None, Result, Ok, Err}
use Rattle.std.specs.List.{slice_split}
use Rattle.gsd_files.specs.Steps.{◌>>=◌}
use Rattle.gsd_files.specs.Rows.{is_blank, place_of}
use Rattle.gsd_files.specs.declared.values.Span.{Span}
use Rattle.gsd_files.specs.declared.cause.Cause.{Cause}
use Rattle.gsd_files.specs.declared.cause.Cause.TheVariants.{NoValue, NoNumber, NoOctet, ManyOctets, NoName, LongName}

-- ---- numbers

-- a digit of a number to the base 10 or 16
abbrev pub digit_of : ℕ → ℕ → Option ℕ
digit_of base octet =
    if nat_le 48 octet && nat_le octet 57 then Some (octet - 48)
    else if base == 16 && nat_le 97 octet && nat_le octet 102 then Some (octet - 87)
    else if base == 16 && nat_le 65 octet && nat_le octet 70 then Some (octet - 55)
    else None

-- a number and one more digit; a larger one is read as 4,294,967,295
abbrev pub with_digit : ℕ → ℕ → Option ℕ → Option ℕ
with_digit base number None = None
with_digit base number (Some digit) =
    if nat_lt 4294967295 (number * base + digit) then Some 4294967295 else Some (number * base + digit)

-- a number and more digits
abbrev pub with_digits : ℕ → Option ℕ → List ℕ → Option ℕ
with_digits base number [] = number
with_digits base None (octet ∷ octets) = None
with_digits base (Some number) (octet ∷ octets) = with_digits base (with_digit base number (digit_of base octet)) octets

-- digits of which there is one at least
abbrev pub digits_number : ℕ → List ℕ → Option ℕ
digits_number base [] = None
digits_number base (octet ∷ octets) = with_digits base (Some 0) (octet ∷ octets)

-- `0x` or `0X`
abbrev pub has_hex_mark : List ℕ → Bool
has_hex_mark [] = false
has_hex_mark (octet ∷ []) = false
has_hex_mark (octet ∷ mark ∷ octets) = octet == 48 && (mark == 120 || mark == 88)

-- the number that a word is: hex digits behind `0x`, or decimal digits
abbrev pub number_of : List ℕ → Option ℕ
number_of word = if has_hex_mark word then digits_number 16 (drop 2 word) else digits_number 10 word

-- a number of 32 bits that may have `-` before it, as its two's complement
abbrev pub negated : Option ℕ → Option ℕ
negated None = None
negated (Some number) = Some (if number == 0 then 0 else 4294967296 - number)

abbrev pub signed_of : List ℕ → Option ℕ
signed_of [] = None
signed_of (octet ∷ octets) = if octet == 45 then negated (number_of octets) else number_of (octet ∷ octets)

-- what follows the first octet of `rest`; all of `word` if there is none
abbrev pub last_of : List ℕ → List ℕ → List ℕ
last_of word [] = word
last_of word (octet ∷ octets) = octets

abbrev pub span_by : Option ℕ → Option ℕ → Option Span
span_by None last = None
span_by (Some first) None = None
span_by (Some first) (Some last) = Some (record { first = first; last = last })

-- a number, or two with `-` between them
abbrev pub span_of : List ℕ → Option Span
span_of word = span_by (number_of (take (place_of 45 word) word)) (number_of (last_of word (drop (place_of 45 word) word)))

-- a number from 0 to `most`
abbrev pub number_within : ℕ → Option ℕ → Result ℕ Cause
number_within most None = Err (NoNumber most)
number_within most (Some number) = if nat_le number most then Ok number else Err (NoNumber most)

abbrev pub number_to : ℕ → Option (List ℕ) → Result ℕ Cause
number_to most None = Err NoValue
number_to most (Some word) = number_within most (number_of word)

-- ---- octets

-- octets stand between blanks or commas
abbrev pub is_separator : ℕ → Bool
is_separator octet = is_blank octet || octet == 44

-- one octet more, of at most 244
abbrev pub with_octet_more : List ℕ → Option ℕ → Result (List ℕ) Cause
with_octet_more octets None = Err NoOctet
with_octet_more octets (Some octet) =
    if nat_lt 255 octet then Err NoOctet
    else if nat_lt (length octets) 244 then Ok (octets ++ octet ∷ [])
    else Err ManyOctets

-- what a word between separators adds to the octets before it
abbrev pub with_word : List ℕ → List ℕ → Result (List ℕ) Cause
with_word octets word = if length word == 0 then Ok octets else with_octet_more octets (number_of word)

abbrev pub with_words : List ℕ → List (List ℕ) → Result (List ℕ) Cause
with_words octets [] = Ok octets
with_words octets (word ∷ words) = with_word octets word >>= λ more. with_words more words

-- the octets that a text adds to those before it
abbrev pub with_octets : List ℕ → List ℕ → Result (List ℕ) Cause
with_octets octets text = with_words octets (slice_split is_separator text)

-- ---- names

-- a character of ISO 8859-1 in UTF-8
abbrev pub utf8_of : ℕ → List ℕ
utf8_of octet = if nat_lt octet 128 then octet ∷ [] else (192 + octet / 64) ∷ (128 + octet % 64) ∷ []

-- a name and one more character, at most 128 octets
abbrev pub with_character : List ℕ → List ℕ → Result (List ℕ) Cause
with_character name character =
    if nat_lt 128 (length name + length character) then Err LongName else Ok (name ++ character)

-- a name in quotes, after these octets of it, and what follows its closing `"`
abbrev pub name_from : List ℕ → List ℕ → Result (List ℕ × List ℕ) Cause
name_from name [] = Err NoName
name_from name (octet ∷ octets) =
    if octet == 34 then Ok (name, octets)
    else with_character name (utf8_of octet) >>= λ more. name_from more octets

-- the name in quotes that a text begins with, and what follows it
abbrev pub name_in : List ℕ → Result (List ℕ × List ℕ) Cause
name_in [] = Err NoName
name_in (octet ∷ octets) = if octet == 34 then name_from [] octets else Err NoName
