-- detail
-- What is wrong with a row of a file of times (own).
use Rattle.std.specs.Prelude.{◌≡◌, codes, ℕ, ◌<◌, ◌≤◌, List, ◌++◌, Result, Ok, Err}
use Rattle.std.specs.Fmt.{decimal}
use Rattle.entry_times.specs.declared.time_row.TimeRow.{TimeRow}
use Rattle.entry_times.specs.declared.time_row.TimesHeader.{TimesHeader}
use Rattle.entry_times.specs.declared.times_fault.TimesFault.{TimesFault}
use Rattle.entry_times.specs.declared.times_fault.TimesFault.TheVariants.{Header, Row, Order}
use Rattle.entry_times.specs.TimeRows.{IsHeader, IsTimeRow, header_text, time_row_text}

abbrev pub times_fault_text : TimesFault → List ℕ
times_fault_text (Header line) = codes "the header \"rack-times 1 line " ++ decimal line ++ codes "\""
times_fault_text Row = codes "a place and its milliseconds since 1970, as \"7 1764570601207\""
times_fault_text (Order last) = codes "a place above " ++ decimal last

-- the text is the header of the times of this line, or of no header of it
abbrev pub IsHeaderFault : {T : Type 0} → ℕ → List ℕ → Result T TimesFault → Type 0
IsHeaderFault line text (Ok done) = text ≡ header_text (record { line = line })
IsHeaderFault line text (Err fault) = (fault ≡ Header line) × (IsHeader (record { line = line }) → text ≡ header_text (record { line = line }) → ⊥)

-- the text is a row of a place above the last one, or of no row at all, or of a row of another place
abbrev pub IsRowFault : ℕ → List ℕ → Result TimeRow TimesFault → Type 0
IsRowFault last text (Ok row) = IsTimeRow row × (text ≡ time_row_text row) × (last < row.place)
IsRowFault last text (Err Row) = (row : TimeRow) → IsTimeRow row → text ≡ time_row_text row → ⊥
IsRowFault last text (Err (Order place)) = (place ≡ last) × ((row : TimeRow) × IsTimeRow row × (text ≡ time_row_text row) × (row.place ≤ last))
IsRowFault last text (Err (Header line)) = ⊥
