-- helper
-- The times of a line that are not written yet (own).
use Rattle.std.specs.Prelude.{codes, ℕ, ◌==◌, List, ◌++◌, if◌then◌else◌, Option, Some, None}
use Rattle.audit_files.specs.declared.line_times.Noted.{Noted}
use Rattle.audit_files.specs.declared.line_times.Recorded.{Recorded}
use Rattle.entry_times.specs.declared.time_row.TimeRow.{TimeRow}
use Rattle.entry_times.specs.TimeRows.{time_row_text}

-- what is noted once an entry is added: the first entry stays, and this one is the last
abbrev pub noted_with : Option Noted → Recorded → Noted
noted_with None recorded = record { first = recorded; last = recorded }
noted_with (Some noted) recorded = record { first = noted.first; last = recorded }

-- a row with the LF that ends it
abbrev pub row_line : TimeRow → List ℕ
row_line row = time_row_text row ++ codes "\n"

-- the rows that are written of what is noted: those of both entries, or one row if they are the same
abbrev pub noted_rows : Noted → List ℕ
noted_rows noted = if noted.first.row.place == noted.last.row.place then row_line noted.last.row else row_line noted.first.row ++ row_line noted.last.row
