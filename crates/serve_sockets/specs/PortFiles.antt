-- detail
-- Files that name ports, which a new one may replace, and the paths beside them (own).
use Rattle.std.specs.Prelude.{codes, ℕ, Bool, true, false, ◌&&◌, ◌||◌, ◌==◌, if◌then◌else◌, List, [], ◌∷◌, ◌++◌, is_some}
use Rattle.std.specs.Fmt.{decimal}
use Rattle.dp_text.specs.Numbers.{number_to}
use Rattle.dp_text.specs.Words.{lines_of, same_text, words_of}

-- ---- words in turn

-- the words behind the first
abbrev pub behind : List (List ℕ) → List (List ℕ)
behind [] = []
behind (word ∷ words) = words

-- the first word is this text
abbrev pub begins_with : List ℕ → List (List ℕ) → Bool
begins_with text [] = false
begins_with text (word ∷ words) = same_text word text

-- the first word is a number of 0 to `most` in plain decimal
abbrev pub begins_with_number : ℕ → List (List ℕ) → Bool
begins_with_number most [] = false
begins_with_number most (word ∷ words) = is_some (number_to most word)

-- ---- rows

-- no word is left
abbrev pub is_end : List (List ℕ) → Bool
is_end [] = true
is_end (word ∷ words) = false

-- this word and a number are first, and these words follow
abbrev pub names_number : List ℕ → ℕ → (List (List ℕ) → Bool) → List (List ℕ) → Bool
names_number text most others words = begins_with text words && (begins_with_number most (behind words) && others (behind (behind words)))

-- the words of the row of a line: its number, and its two ports
abbrev pub is_row_of_line : List (List ℕ) → Bool
is_row_of_line = names_number (codes "line") 255 (names_number (codes "listen") 65535 (names_number (codes "operator") 65535 is_end))

-- the words of the row of a cable: the port of the line and its own
abbrev pub is_row_of_cable : List (List ℕ) → Bool
is_row_of_cable = names_number (codes "cable") 65535 (names_number (codes "listen") 65535 is_end)

-- the row names the ports of a line, or of a cable
abbrev pub names_row : List ℕ → Bool
names_row row = is_row_of_line (words_of row) || is_row_of_cable (words_of row)

-- each row names ports, and the last one ends in LF
abbrev pub names_rows : List (List ℕ) → Bool
names_rows [] = false
names_rows ([] ∷ []) = true
names_rows (row ∷ rows) = names_row row && names_rows rows

-- the text names ports or is empty
abbrev pub names_ports : List ℕ → Bool
names_ports text = names_rows (lines_of text)

-- ---- paths

-- the path of the file beside: the first one ends in .new
abbrev pub path_beside : List ℕ → ℕ → List ℕ
path_beside path number = if number == 0 then path ++ codes ".new" else path ++ codes ".new." ++ decimal number
