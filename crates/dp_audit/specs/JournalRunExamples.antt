-- helper
-- Answers and entries of a journal with three places, worked out.
use Rattle.std.specs.Prelude.{◌≡◌, true, [], ◌∷◌, Some, None, refl}
use Rattle.dp_line.specs.declared.event.Event.TheVariants.{Operator}
use Rattle.dp_line.specs.declared.event.Op.TheVariants.{Busy, Halt, Tick}
use Rattle.dp_line.specs.declared.event.Outcome.TheVariants.{Refused, Released}
use Rattle.dp_line.specs.declared.event.Step.{Step}
use Rattle.dp_line.specs.declared.fault.OperatorFault.TheVariants as faults
use Rattle.dp_audit.specs.declared.entry.Entry.{Entry}
use Rattle.dp_audit.specs.JournalRuns.{answer_of, entries_reported, events_of}

-- a tick that releases no slave, and the halt at the last place, which releases two
abbrev pub second_entry : Entry
second_entry = record { place = 2; event = Operator (Tick 5); facts = None; outcome = Released (record { items = [] }) }

abbrev pub last_entry : Entry
last_entry = record { place = 3; event = Operator Halt; facts = None; outcome = Released (record { items = 4 ∷ 9 ∷ [] }) }

abbrev pub second_answer : Step
second_answer = record { place = Some 2; facts = None; outcome = Released (record { items = [] }); halted = None }

abbrev pub last_answer : Step
last_answer = record { place = None; facts = None; outcome = Refused faults.Halted; halted = Some (record { items = 4 ∷ 9 ∷ [] }) }

-- below the last place an entry records the answer to its event
pub an_answer_recorded : answer_of 3 second_entry ≡ second_answer
an_answer_recorded = refl

-- at the last place the event was refused, and the halt is recorded instead
pub an_answer_replaced : answer_of 3 last_entry ≡ last_answer
an_answer_replaced = refl

-- of three events one is recorded, one is refused, and the last meets the last place
pub two_entries_of_three_events :
    entries_reported 2 (Operator (Tick 5) ∷ Operator (Busy 9 None true) ∷ Operator (Tick 1) ∷ [])
    (second_answer ∷ record { place = None; facts = None; outcome = Refused faults.NoStation; halted = None } ∷ last_answer ∷ [])
    ≡ second_entry ∷ last_entry ∷ []
two_entries_of_three_events = refl

pub their_events : events_of (second_entry ∷ last_entry ∷ []) ≡ Operator (Tick 5) ∷ Operator Halt ∷ []
their_events = refl
