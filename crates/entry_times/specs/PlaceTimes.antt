-- detail
-- The time of a place, by rows of places and times (own).
use Rattle.std.specs.Prelude.{◌≡◌, codes, ℕ, suc, zero, ◌+◌, ◌-◌, ◌*◌, ◌/◌, ◌<◌, ◌≤◌, ◌==◌, Bool, true, length, IfSome, nat_lt, nat_le, if◌then◌else◌, List, [], ◌∷◌, ◌++◌, slice_get, Option, Some, None}
use Rattle.std.specs.List.Sorted.{IsNonDecreasingBy}
use Rattle.entry_times.specs.declared.time_row.TimeRow.{TimeRow}
use Rattle.entry_times.specs.declared.entry_time.EntryTime.{EntryTime}
use Rattle.entry_times.specs.declared.entry_time.EntryTime.TheVariants.{Recorded, Between}
use Rattle.entry_times.specs.DayTimes.{day_time_text}

-- how many rows at the beginning of a list are of places before this one
abbrev pub rows_before : ℕ → List TimeRow → ℕ
rows_before place [] = 0
rows_before place (row ∷ rows) = if nat_lt row.place place then suc (rows_before place rows) else 0

-- the last of this many rows
abbrev pub last_of : List TimeRow → ℕ → Option TimeRow
last_of rows zero = None
last_of rows (suc count) = slice_get rows count

-- the last row of a place before this one, and the first row behind it
abbrev pub row_before : List TimeRow → ℕ → Option TimeRow
row_before rows place = last_of rows (rows_before place rows)

abbrev pub row_from : List TimeRow → ℕ → Option TimeRow
row_from rows place = slice_get rows (rows_before place rows)

-- the time between two rows, which goes on evenly with the places; a fraction of a millisecond is dropped
unfoldable pub interpolated : TimeRow → TimeRow → ℕ → ℕ
interpolated before after place =
    before.milliseconds + ((after.milliseconds - before.milliseconds) * (place - before.place)) / (after.place - before.place)

-- there is none if the clock was set back between the two rows
abbrev pub between : TimeRow → TimeRow → ℕ → Option EntryTime
between before after place =
    if nat_le before.milliseconds after.milliseconds then Some (Between (interpolated before after place)) else None

abbrev pub unless_of : TimeRow → ℕ → Option EntryTime → Option EntryTime
unless_of row place otherwise = if row.place == place then Some (Recorded row.milliseconds) else otherwise

-- the time of a place by the row before it and the row from it on: that of its own row, or one between both rows; none before the first row and behind the
-- last one
abbrev pub time_by : Option TimeRow → Option TimeRow → ℕ → Option EntryTime
time_by before None place = None
time_by None (Some after) place = unless_of after place None
time_by (Some before) (Some after) place = unless_of after place (between before after place)

abbrev pub time_of : List TimeRow → ℕ → Option EntryTime
time_of rows place = time_by (row_before rows place) (row_from rows place) place

-- the milliseconds of a time
abbrev pub time_milliseconds : EntryTime → ℕ
time_milliseconds (Recorded milliseconds) = milliseconds
time_milliseconds (Between milliseconds) = milliseconds

-- the nearest time that is known if a place has none: that of the row before it, or else that of the row behind it
abbrev pub nearest_row : Option TimeRow → Option TimeRow → Option ℕ
nearest_row (Some before) after = Some before.milliseconds
nearest_row None (Some after) = Some after.milliseconds
nearest_row None None = None

abbrev pub nearest_by : Option EntryTime → Option TimeRow → Option TimeRow → Option ℕ
nearest_by (Some time) before after = Some (time_milliseconds time)
nearest_by None before after = nearest_row before after

-- the milliseconds of a place, or those nearest to it; none if there is no row
abbrev pub nearest : List TimeRow → ℕ → Option ℕ
nearest rows place = nearest_by (time_of rows place) (row_before rows place) (row_from rows place)

-- the places of the rows do not descend
abbrev pub AreInOrder : List TimeRow → Type 0
AreInOrder rows = IsNonDecreasingBy (λ row. row.place) rows

-- the times of the rows do not go back: the clock was not set back
abbrev pub DoNotGoBack : List TimeRow → Type 0
DoNotGoBack rows = IsNonDecreasingBy (λ row. row.milliseconds) rows

-- one more row behind the others, unless its place is not above that of the last one
abbrev pub is_above : Option TimeRow → ℕ → Bool
is_above None place = true
is_above (Some last) place = nat_lt last.place place

abbrev pub with_row : List TimeRow → TimeRow → List TimeRow
with_row rows row = if is_above (slice_get rows (length rows - 1)) row.place then rows ++ row ∷ [] else rows

-- a place is behind the row before it, and not behind the row from it on
abbrev pub IsAround : Option TimeRow → Option TimeRow → ℕ → Type 0
IsAround before from place = IfSome before (λ row. row.place < place) × IfSome from (λ row. place ≤ row.place)

-- a time in words: a tilde marks one that is interpolated
abbrev pub entry_time_text : EntryTime → List ℕ
entry_time_text (Recorded milliseconds) = day_time_text milliseconds
entry_time_text (Between milliseconds) = codes "~" ++ day_time_text milliseconds
