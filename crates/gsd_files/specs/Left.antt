-- helper
-- Definitions for private functions. No public clause cites this module.
use Rattle.std.specs.Prelude.{◌≡◌, ℕ, ◌+◌, ◌≤◌, List, [], ◌++◌, take, length, Option, Some, None}
use Rattle.std.specs.Borrow.{Bor}
use Rattle.gsd_files.specs.Defaults.{defaults_of, defaults_from}
use Rattle.gsd_files.specs.Files.{Begun, read_from, last_row, lines_of, gsd_of}
use Rattle.gsd_files.specs.declared.user.UserDefault.{UserDefault}

-- the lines of the text that is left
abbrev pub lines_left : Option (Bor (List ℕ)) → List (List ℕ)
lines_left None = []
lines_left (Some text) = lines_of text.now

-- an upper bound of their number
abbrev pub most_left : Option (Bor (List ℕ)) → ℕ
most_left None = 0
most_left (Some text) = length text.now + 1

-- between two lines of a text: those left give what all lines give
pub record IsReading (text : List ℕ) (row : ℕ) (begun : Begun) (left : Option (Bor (List ℕ))) : Type 0 where
  pub whole : gsd_of text ≡ read_from (defaults_of (lines_of text)) (last_row text) row begun (lines_left left)
  pub room : most_left left + row ≤ length text + 1

-- between two lines of a text: the defaults that were found, and those of the lines left, are those of all lines
pub record IsFinding (text : List ℕ) (defaults : List UserDefault) (block : Option ℕ) (left : Option (Bor (List ℕ))) : Type 0 where
  pub whole : defaults_of (lines_of text) ≡ defaults_from defaults block (lines_left left)

-- octets and those of `more` that have been appended
pub record IsJoining (octets more all : List ℕ) (count : ℕ) : Type 0 where
  pub joined : all ≡ octets ++ take count more
  pub room : length octets + length more ≤ 244
