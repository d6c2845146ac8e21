-- promise
-- The time that passes on a line (own).
use Rattle.std.specs.Prelude.{ℕ, ◌+◌, ◌-◌, ◌^◌, min, List, [], ◌∷◌, Option, Some, unwrap_or}
use Rattle.dp_line.specs.declared.event.Event.{Event}
use Rattle.dp_line.specs.declared.event.Event.TheVariants.{Operator}
use Rattle.dp_line.specs.declared.event.Op.TheVariants.{Tick}
use Rattle.dp_audit.specs.declared.entry.Entry.{Entry}

-- the sum of the ticks after an event, in units of 10 ms; None before the first tick. It stops at the largest number of 64 bits
abbrev pub time_after : Option ℕ → Event → Option ℕ
time_after time (Operator (Tick units)) = Some (min (unwrap_or time 0 + units) (2 ^ 64 - 1))
time_after time event = time

-- the sum of the ticks after entries
abbrev pub time_of : Option ℕ → List Entry → Option ℕ
time_of time [] = time
time_of time (entry ∷ entries) = time_of (time_after time entry.event) entries
