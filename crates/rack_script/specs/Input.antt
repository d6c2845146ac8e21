-- detail
-- How standard input is split into a rack text and a script (own).
use Rattle.std.specs.Prelude.{codes, ℕ, Bool, ◌==◌, nat_eq, if◌then◌else◌, List, [], ◌∷◌, ◌++◌}
use Rattle.std.specs.List.{list_any, slice_split, before_first, after_first, join_with_byte}
use Rattle.std.specs.Cmp.Lexicographic.{pointwise}

-- a rack text and a script
pub record Parts : Type 0 where
  pub rack : List ℕ
  pub script : List ℕ

-- LF ends a line
abbrev pub is_lf : ℕ → Bool
is_lf octet = octet == 10

-- the lines of a text, without their LFs; what follows the last LF is a line too
abbrev pub lines_in : List ℕ → List (List ℕ)
lines_in text = slice_split is_lf text

-- the line that separates the rack text from the script: two percent signs, and nothing else
abbrev pub is_mark : List ℕ → Bool
is_mark line = pointwise nat_eq line (codes "%%")

-- lines, each with its LF
abbrev pub with_ends : List (List ℕ) → List ℕ
with_ends [] = []
with_ends (line ∷ lines) = (line ++ 10 ∷ []) ++ with_ends lines

-- the rack text is the lines before the first mark, each with its LF, and the script is what follows the LF of the mark;
-- if there is no mark, all of the text is the rack text, and the script is empty
abbrev pub parts_by_lines : List ℕ → List (List ℕ) → Parts
parts_by_lines text lines =
    if list_any is_mark lines
    then record { rack = with_ends (before_first is_mark lines); script = join_with_byte 10 (after_first is_mark lines) }
    else record { rack = text; script = [] }

abbrev pub parts_of : List ℕ → Parts
parts_of text = parts_by_lines text (lines_in text)
