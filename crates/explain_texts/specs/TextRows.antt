-- detail
-- The rows of a text that a reader gives, one after another (own).
use Rattle.std.specs.Prelude.{◌≡◌, ℕ, Bool, false, if◌then◌else◌, List, [], ◌∷◌, ◌++◌, Option, Some, IfSome}
use Rattle.std.specs.Io.BufRead.{drop_through, take_through}
use Rattle.std.specs.Io.KnownBytes.{Consumes, prepend_known}
use Rattle.dp_audit.specs.FirstWrong.{HasNoLf}

-- what was read of a text: all octets before the current row; the current row, without its LF; and whether it is whole, which is whether its LF
-- was read
pub record TextRead : Type 0 where
  pub past : List ℕ
  pub row : List ℕ
  pub whole : Bool

abbrev pub nothing_read : TextRead
nothing_read = record { past = []; row = []; whole = false }

-- the LF of a row that is whole
abbrev pub lf_if : Bool → List ℕ
lf_if whole = if whole then 10 ∷ [] else []

-- all octets that were read
abbrev pub octets_read : TextRead → List ℕ
octets_read text = text.past ++ (text.row ++ lf_if text.whole)

-- after a row that is whole, the next one begins
abbrev pub row_begun : TextRead → TextRead
row_begun text = if text.whole then record { past = octets_read text; row = []; whole = false } else text

-- the whole text, if it is known which octets the reader has left
abbrev pub known_text : TextRead → Option (List ℕ) → Option (List ℕ)
known_text text left = prepend_known (octets_read text) left

-- ---- what a call reads

-- a piece of what the reader has left is read, which belongs to the current row; no LF is within the row
pub record ReadsOn (left left_after : Option (List ℕ)) (before after : TextRead) : Type 0 where
  pub piece : List ℕ
  pub grows : octets_read after ≡ octets_read before ++ piece
  pub same_past : after.past ≡ before.past
  pub no_lf : HasNoLf after.row
  pub none_lost : Consumes left left_after piece

-- if it is known what the reader has left, the piece is all of it up to its first LF, or all of it
abbrev pub ReadsPiece : Option (List ℕ) → Option (List ℕ) → TextRead → TextRead → Type 0
ReadsPiece left left_after before after =
    IfSome left (λ octets. (octets_read after ≡ octets_read before ++ take_through 10 octets) × (left_after ≡ Some (drop_through 10 octets)))

-- if it is known what the reader had left, nothing is left
abbrev pub EndsAt : Option (List ℕ) → Option (List ℕ) → Type 0
EndsAt left left_after = IfSome left (λ octets. left_after ≡ Some [])

-- a text begins with another one
abbrev pub Begins : List ℕ → List ℕ → Type 0
Begins front text = (behind : List ℕ) × (text ≡ front ++ behind)
