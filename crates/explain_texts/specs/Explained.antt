-- detail
-- The explanation of an audit text: a list of facts (own).
use Rattle.std.specs.Prelude.{codes, ◌≡◌, ℕ, ◌+◌, ◌-◌, if◌then◌else◌, List, [], ◌∷◌, ◌++◌, take, drop, Option, Some, None, option_map, option_and_then, Result, Ok, Err}
use Rattle.std.specs.Io.KnownBytes.{Appends}
use Rattle.std.specs.Fmt.{decimal}
use Rattle.dp_line.specs.declared.event.Event.{Event}
use Rattle.dp_line.specs.declared.event.Outcome.{Outcome}
use Rattle.dp_line.specs.World.{Description, World}
use Rattle.dp_line.specs.Steps.{step}
use Rattle.dp_text.specs.Words.{lines_of}
use Rattle.dp_text.specs.Writes.{WritesPrefix}
use Rattle.dp_audit.specs.declared.fault.AuditFault.{AuditFault}
use Rattle.dp_audit.specs.declared.fault.AuditFault.TheVariants as faults
use Rattle.dp_audit.specs.Check.{checked, parted, placed_of, places_of_lines}
use Rattle.explain_texts.specs.declared.choice.Choice.{Choice}
use Rattle.explain_texts.specs.declared.explain_fault.ExplainFault.{ExplainFault}
use Rattle.explain_texts.specs.declared.hold.Hold.{Hold}
use Rattle.explain_events.specs.EventContexts.{EventContextView}
use Rattle.explain_texts.specs.Choices.{is_chosen}
use Rattle.explain_texts.specs.Holds.{holds_ended, holds_lasting}
use Rattle.explain_texts.specs.Known.{KnownView, first_known, first_world, known_after, last_statistics, outcome_reported}
use Rattle.explain_texts.specs.Reported.{Reported, reports_entry, reports_summary, reports_verdict}
use Rattle.explain_texts.specs.Reports.{Reports, ReportsPrefix, Takes}

-- the event of a text line, which stands between the place and the first bar
abbrev pub event_of_row : List ℕ → Option Event
event_of_row row = option_and_then (λ parts. option_map (λ placed. placed.event) (placed_of parts.0)) (parted row)

-- ---- the entries

-- the entry of an event with this outcome, if it is chosen
abbrev pub chosen_entry : Choice → EventContextView → World → ℕ → Event → Outcome → List Reported
chosen_entry choice context after place event outcome =
    if is_chosen choice context place event outcome
    then reports_entry (record { context = context; after = after; place = place; event = event; outcome = outcome }) ∷ []
    else []

-- the event takes the next place of the line
abbrev pub reported_event : Choice → EventContextView → Event → List Reported
reported_event choice context event =
    chosen_entry choice context (step context.world event).world (context.world.count + 1) event (outcome_reported context.world event)

abbrev pub reported_row : Choice → KnownView → Option Event → List Reported
reported_row choice known None = []
reported_row choice known (Some event) = reported_event choice known.context event

abbrev pub known_behind : KnownView → Option Event → KnownView
known_behind known None = known
known_behind known (Some event) = known_after known event

-- what is reported of the lines of an audit text, one after another, and what is known after the last
abbrev pub reported_rows : Choice → KnownView → List (List ℕ) → List Reported
reported_rows choice known [] = []
reported_rows choice known (row ∷ rows) = reported_row choice known (event_of_row row) ++ reported_rows choice (known_behind known (event_of_row row)) rows

abbrev pub last_known : KnownView → List (List ℕ) → KnownView
last_known known [] = known
last_known known (row ∷ rows) = last_known (known_behind known (event_of_row row)) rows

-- ---- the holds

-- the holds that an event ended, which takes the next place of the line
abbrev pub ended_by : World → Event → List Hold
ended_by world event = holds_ended world (step world event).world (world.count + 1) event (outcome_reported world event)

abbrev pub ended_by_row : World → Option Event → List Hold
ended_by_row world None = []
ended_by_row world (Some event) = ended_by world event

abbrev pub world_behind : World → Option Event → World
world_behind world None = world
world_behind world (Some event) = (step world event).world

-- the holds that the lines of an audit text ended, in the order in which they ended, and the line after the last
abbrev pub ended_by_rows : World → List (List ℕ) → List Hold
ended_by_rows world [] = []
ended_by_rows world (row ∷ rows) = ended_by_row world (event_of_row row) ++ ended_by_rows (world_behind world (event_of_row row)) rows

abbrev pub last_world : World → List (List ℕ) → World
last_world world [] = world
last_world world (row ∷ rows) = last_world (world_behind world (event_of_row row)) rows

-- the holds of a line with this number of places: those that ended, and then those that last, in the order of the rack
abbrev pub holds_of : Description → ℕ → List (List ℕ) → List Hold
holds_of line places rows = ended_by_rows (first_world line places) rows ++ holds_lasting (last_world (first_world line places) rows) line.slaves

-- ---- the explanation

-- how many entries there are before the first wrong one: line 1 is the header, and line 2 the first entry
abbrev pub right_entries : Result ℕ AuditFault → ℕ
right_entries (Ok count) = count
right_entries (Err faults.OutOfMemory) = 0
right_entries (Err (faults.BadLine row)) = row - 2
right_entries (Err (faults.NotThePolicy row)) = row - 2

-- the verdict on an audit text, in the words of a check; nothing is written if memory ran out
abbrev pub verdict_text : Result ℕ AuditFault → List ℕ
verdict_text (Ok count) = codes "legal " ++ decimal count ++ codes "\n"
verdict_text (Err faults.OutOfMemory) = []
verdict_text (Err (faults.BadLine row)) = codes "bad line " ++ decimal row ++ codes "\n"
verdict_text (Err (faults.NotThePolicy row)) = codes "not the policy " ++ decimal row ++ codes "\n"

-- 0 if the text is legal
abbrev pub verdict_status : Result ℕ AuditFault → ℕ
verdict_status (Ok count) = 0
verdict_status (Err fault) = 1

-- the text lines of the right entries
abbrev pub right_rows : Result ℕ AuditFault → List ℕ → List (List ℕ)
right_rows verdict text = take (right_entries verdict) (drop 1 (lines_of text))

-- these holds, and what is counted
abbrev pub summary_of : List Hold → KnownView → Reported
summary_of holds known = reports_summary (record {
  line = known.context.description;
  holds = holds;
  tally = known.tally;
  statistics = last_statistics known;
})

-- the chosen entries, the summary and the verdict
abbrev pub reported_text : Description → ℕ → List (List ℕ) → Choice → Result ℕ AuditFault → List Reported
reported_text line places rows choice verdict =
    reported_rows choice (first_known line places) rows
    ++ summary_of (holds_of line places rows) (last_known (first_known line places) rows) ∷ reports_verdict verdict ∷ []

abbrev pub explained_by : Result ℕ AuditFault → Description → List ℕ → Choice → List Reported
explained_by verdict line text choice =
    reported_text line (places_of_lines line (lines_of text)) (right_rows verdict text) choice verdict

-- the explanation of an audit text of a line
abbrev pub explained : Description → List ℕ → Choice → List Reported
explained line text choice = explained_by (checked line text) line text choice

-- ---- what a call leaves on its writer

-- the whole text, or a prefix of it if the call ended early
abbrev pub Leaves : List ℕ → Option (List ℕ) → Option (List ℕ) → Result (Unit {0}) ExplainFault → Type 0
Leaves text old new (Ok done) = Appends old new text
Leaves text old new (Err fault) = WritesPrefix old new text

-- ---- what a call leaves of a receiver

-- all facts and the exit status, or a first part of the facts if the call ended early
abbrev pub Explains : {S : Type 0} → Takes S → Result ℕ AuditFault → List Reported → S → S → Result ℕ ExplainFault → Type 0
Explains takes verdict facts old new (Ok status) = (status ≡ verdict_status verdict) × Reports takes old new facts
Explains takes verdict facts old new (Err fault) = ReportsPrefix takes old new facts
