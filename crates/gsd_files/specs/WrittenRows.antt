-- detail
-- The rows of a GSD file that is written: how long they are, and how a value over several of them is read (own).
use Rattle.std.specs.Prelude.{ℕ, ◌+◌, ◌==◌, Bool, true, false, ◌&&◌, nat_lt, if◌then◌else◌, List, [], ◌∷◌, Result, Ok}
use Rattle.gsd_files.specs.Steps.{◌>>=◌}
use Rattle.gsd_files.specs.Rows.{trimmed, goes_on, body_of}
use Rattle.gsd_files.specs.Values.{with_octets}
use Rattle.gsd_files.specs.declared.cause.Cause.{Cause}

-- no row has more than `most` octets before its LF; `column` octets of the first row stand before the text
abbrev pub rows_within : ℕ → ℕ → List ℕ → Bool
rows_within most column [] = true
rows_within most column (octet ∷ octets) =
    if octet == 10 then rows_within most 0 octets else nat_lt column most && rows_within most (column + 1) octets

-- what a line adds to the octets of a value
abbrev pub with_line : List ℕ → List ℕ → Result (List ℕ) Cause
with_line octets line = with_octets octets (body_of (trimmed false line))

-- what these lines add to the octets of a value, which ends with the first one that doesn't go on
abbrev pub with_lines : List ℕ → List (List ℕ) → Result (List ℕ) Cause
with_lines octets [] = Ok octets
with_lines octets (line ∷ lines) =
    with_line octets line >>= λ more. if goes_on (trimmed false line) then with_lines more lines else Ok more
