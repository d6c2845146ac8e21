-- detail
-- The lines of a text and the words of a line (own).
use Rattle.std.specs.Prelude.{ℕ, Bool, ◌==◌, nat_eq, List, [], Option, Some, None}
use Rattle.std.specs.Borrow.{Bor}
use Rattle.std.specs.List.{slice_split}
use Rattle.std.specs.Cmp.Lexicographic.{pointwise}

-- lines end in LF; what follows the last LF is a line too
abbrev pub lines_of : List ℕ → List (List ℕ)
lines_of text = slice_split (λ octet. octet == 10) text

-- one space separates two words
abbrev pub words_of : List ℕ → List (List ℕ)
words_of line = slice_split (λ octet. octet == 32) line

abbrev pub same_text : List ℕ → List ℕ → Bool
same_text = pointwise nat_eq

-- the parts of the text that is left; none if no text is left
abbrev pub parts_left : (List ℕ → List (List ℕ)) → Option (Bor (List ℕ)) → List (List ℕ)
parts_left parts_of None = []
parts_left parts_of (Some text) = parts_of text.now
