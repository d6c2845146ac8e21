-- detail
-- Rows of words, one after another: written, and read from a text (own).
use Rattle.std.specs.Prelude.{codes, ℕ, ◌+◌, ◌==◌, if◌then◌else◌, List, [], ◌∷◌, ◌++◌, Option, Some, None, option_map, Result, Ok, Err}
use Rattle.std.specs.List.{flat_map, join_with_byte}
use Rattle.dp_text.specs.Words.{words_of, same_text}

-- ---- written

-- words, joined by single spaces
abbrev pub spaced : List (List ℕ) → List ℕ
spaced words = join_with_byte 32 words

-- a row of these words, with its LF
abbrev pub row_text : List (List ℕ) → List ℕ
row_text words = spaced words ++ codes "\n"

-- rows, each of these words
abbrev pub rows_text : List (List (List ℕ)) → List ℕ
rows_text rows = flat_map row_text rows

-- ---- read

-- what is left of a text: the number of its first row in the whole text, and its octets
pub record Left : Type 0 where
  pub number : ℕ
  pub text : List ℕ

-- the first row of a text without its LF, and what follows the LF; None if the text has no LF
abbrev pub first_row : List ℕ → Option (List ℕ × List ℕ)
first_row [] = None
first_row (octet ∷ octets) =
    if octet == 10 then Some ([], octets) else option_map (λ parts. (octet ∷ parts.0, parts.1)) (first_row octets)

-- the value if the row has exactly its words
abbrev pub if_written : {A : Type 0} → (A → List (List ℕ)) → List ℕ → Option A → Option A
if_written words_for row None = None
if_written words_for row (Some value) = if same_text row (spaced (words_for value)) then Some value else None

-- the value whose words make this row: `found` finds it from the words, and `words_for` has the words of a value
abbrev pub value_of_row : {A : Type 0} → (A → List (List ℕ)) → (List (List ℕ) → Option A) → List ℕ → Option A
value_of_row words_for found row = if_written words_for row (found (words_of row))

-- a row that is wrong is named by its number
abbrev pub after_row : {A : Type 0} → ℕ → List ℕ → Option A → Result (A × Left) ℕ
after_row number rest None = Err number
after_row number rest (Some value) = Ok (value, record { number = number + 1; text = rest })

abbrev pub from_row : {A : Type 0} → ℕ → (List ℕ → Option A) → Option (List ℕ × List ℕ) → Result (A × Left) ℕ
from_row number value_of None = Err number
from_row number value_of (Some parts) = after_row number parts.1 (value_of parts.0)

-- the value of the first row and what is left after it, or the number of the row: it is not there with its LF, or has no value
abbrev pub read_row : {A : Type 0} → (List ℕ → Option A) → Left → Result (A × Left) ℕ
read_row value_of left = from_row left.number value_of (first_row left.text)

-- reading goes on with a value and what is left
abbrev pub and_then : {A B : Type 0} → Result (A × Left) ℕ → (A → Left → Result (B × Left) ℕ) → Result (B × Left) ℕ
and_then (Err number) next = Err number
and_then (Ok read) next = next read.0 read.1
