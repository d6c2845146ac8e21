-- promise
-- Journals as runs of a line (own).
use Rattle.std.specs.Prelude.{ℕ, ◌+◌, nat_le, if◌then◌else◌, List, [], ◌∷◌, ◌++◌, length, map, Option, Some, None}
use Rattle.arrayvec.specs.ArrayVec.{ArrayVec}
use Rattle.dp_line.specs.declared.event.Event.{Event}
use Rattle.dp_line.specs.declared.event.Event.TheVariants.{Operator}
use Rattle.dp_line.specs.declared.event.Op.TheVariants.{Halt}
use Rattle.dp_line.specs.declared.event.Outcome.{Outcome}
use Rattle.dp_line.specs.declared.event.Outcome.TheVariants.{Refused, Released}
use Rattle.dp_line.specs.declared.event.Step.{Step}
use Rattle.dp_line.specs.declared.fault.OperatorFault.TheVariants as faults
use Rattle.dp_line.specs.World.{World}
use Rattle.dp_line.specs.Steps.{step}
use Rattle.dp_audit.specs.declared.entry.Entry.{Entry}
use Rattle.dp_audit.specs.Journal.{Journal, added, taken}

-- ---- the run of a journal

-- the events of entries, in order
abbrev pub events_of : List Entry → List Event
events_of entries = map (λ entry. entry.event) entries

-- the answer to an event that an entry records
abbrev pub answer_recorded : Entry → Step
answer_recorded entry = record { place = Some entry.place; facts = entry.facts; outcome = entry.outcome; halted = None }

-- the addresses of the slaves that an outcome names as released
abbrev pub released_in : Outcome → Option (ArrayVec ℕ)
released_in (Released addresses) = Some addresses
released_in outcome = None

-- the answer at the last place, where the entry is the halt: the event of the operator is refused, and the halt is recorded instead of it
abbrev pub answer_replaced : Entry → Step
answer_replaced entry = record { place = None; facts = None; outcome = Refused faults.Halted; halted = released_in entry.outcome }

-- the answer of a line with this number of places to the event of an entry
abbrev pub answer_of : ℕ → Entry → Step
answer_of capacity entry = if nat_le capacity entry.place then answer_replaced entry else answer_recorded entry

-- ---- the journal of a run

-- the entries that events add one after another
abbrev pub entries_added : World → List Event → List Entry
entries_added world [] = []
entries_added world (event ∷ events) = added world event ++ entries_added (step world event).world events

-- the entry that an answer reports, at this place: the event if it has a place, or else the halt if it was recorded instead of the event
abbrev pub halt_reported : ℕ → Option (ArrayVec ℕ) → List Entry
halt_reported place (Some addresses) = record { place = place; event = Operator Halt; facts = None; outcome = Released addresses } ∷ []
halt_reported place None = []

abbrev pub event_reported : ℕ → Event → Step → Option ℕ → List Entry
event_reported place event answer (Some given) = record { place = place; event = event; facts = answer.facts; outcome = answer.outcome } ∷ []
event_reported place event answer None = halt_reported place answer.halted

abbrev pub entry_reported : ℕ → Event → Step → List Entry
entry_reported place event answer = event_reported place event answer answer.place

-- the entries that the answers to events report, from this place on
abbrev pub entries_reported : ℕ → List Event → List Step → List Entry
entries_reported place [] answers = []
entries_reported place (event ∷ events) [] = []
entries_reported place (event ∷ events) (answer ∷ answers) =
    let own = entry_reported place event answer in
    own ++ entries_reported (place + length own) events answers

-- the journal after events one after another
abbrev pub taken_each : Journal → List Event → Journal
taken_each journal [] = journal
taken_each journal (event ∷ events) = taken_each (taken journal event) events
