-- detail
-- The rows of times, and reading them (own).
use Rattle.std.specs.Prelude.{◌≡◌, ℕ, ◌<◌, ◌≤◌, ◌^◌, List, ◌++◌, Option, Some, None, codes}
use Rattle.std.specs.Fmt.{decimal}
use Rattle.entry_times.specs.declared.time_row.TimeRow.{TimeRow}
use Rattle.entry_times.specs.declared.time_row.TimesHeader.{TimesHeader}

-- What is read from a text: the value, of those that are possible, for which exactly this text is written; or none if it is written for none of them.
abbrev pub IsReadFrom : {A : Type 0} → (A → List ℕ) → (A → Type 0) → List ℕ → Option A → Type 0
IsReadFrom written IsPossible text (Some value) = IsPossible value × (text ≡ written value)
IsReadFrom written IsPossible text None = (value : _) → IsPossible value → text ≡ written value → ⊥

-- a number from 1 on, in this number of bits
abbrev pub IsNumber : ℕ → ℕ → Type 0
IsNumber bits number = (1 ≤ number) × (number < 2 ^ bits)

-- the first row of a file: the version, and the number of the line
abbrev pub header_text : TimesHeader → List ℕ
header_text header = codes "rack-times 1 line " ++ decimal header.line

abbrev pub IsHeader : TimesHeader → Type 0
IsHeader header = IsNumber 8 header.line

-- each further row: a place, and the milliseconds since 1970 (UTC) at which its entry was recorded
abbrev pub time_row_text : TimeRow → List ℕ
time_row_text row = decimal row.place ++ codes " " ++ decimal row.milliseconds

abbrev pub IsTimeRow : TimeRow → Type 0
IsTimeRow row = IsNumber 32 row.place × IsNumber 64 row.milliseconds
