-- detail
-- The text that is shown for a refused rack text (own).
use Rattle.std.specs.Prelude.{◌≡◌, ℕ, ◌+◌, ◌==◌, ◌≤◌, codes, List, ◌++◌, length, take, count_by, Option, Some, None, Result, Ok, Err, IsSomeAnd}
use Rattle.std.specs.Fmt.{decimal}
use Rattle.toml.specs.Data.{Members}
use Rattle.rack_file.specs.declared.misread.Misread.{Misread}
use Rattle.rack_file.specs.declared.misread.Misread.TheVariants as misreads
use Rattle.rack_file.specs.Rack.{RackDescription}
use Rattle.rack_file.specs.Misreads.{shown}
use Rattle.rack_file.specs.Suggestions.{reported_key}
use Rattle.rack_file.specs.RackFile.{rack_of}

-- the number of the text line, from 1, that has the octet at this offset
abbrev pub row_at : List ℕ → ℕ → ℕ
row_at text offset = count_by (λ octet. octet == 0x0A) (take offset text) + 1

-- the text for a rack text that isn't TOML: the number of a text line, and a message in one line; the crate toml chooses both
abbrev pub ReportsRow : List ℕ → List ℕ → Type 0
ReportsRow text reported =
    (offset : ℕ) × (message : List ℕ) × (offset ≤ length text) × (reported ≡ codes "row " ++ decimal (row_at text offset) ++ codes ": " ++ shown message)

-- the text for a document: the key that isn't accepted; None for other faults
abbrev pub cause_of : Result RackDescription Misread → Option (List ℕ)
cause_of (Ok rack) = None
cause_of (Err (misreads.BadKey bad)) = Some (reported_key bad)
cause_of (Err other) = None

-- this text is shown for a rack text and the document that it is
abbrev pub ReportsCause : List ℕ → Option Members → Option (List ℕ) → Type 0
ReportsCause text None reported = IsSomeAnd reported (ReportsRow text)
ReportsCause text (Some file) reported = reported ≡ cause_of (rack_of file)
