-- The lines of a legal text give the explanation of its entries.
use Rattle.std.proofs.Common.{◌≡◌, ℕ, ◌+◌, true, false, List, [], ◌∷◌, ◌++◌, map, Option, Some, None, Result, Ok, refl, sym, ap, ◌∙◌}
use Rattle.std.specs.List.{AllByRecursion}
use Rattle.dp_line.specs.declared.event.Event.{Event}
use Rattle.dp_line.specs.declared.event.Event.TheVariants.{Operator}
use Rattle.dp_line.specs.declared.event.Op.TheVariants.{Halt}
use Rattle.dp_line.specs.declared.event.Outcome.{Outcome}
use Rattle.dp_line.specs.declared.event.Outcome.TheVariants.{Released}
use Rattle.dp_line.specs.declared.fault.OperatorFault.{OperatorFault}
use Rattle.dp_line.specs.World.{Description, World, opening_fault}
use Rattle.dp_line.specs.Effects.{Stepped, effect, held_addresses, outcome_of}
use Rattle.dp_line.specs.Steps.{step}
use Rattle.dp_text.specs.Events.{IsWithinLimits}
use Rattle.dp_audit.specs.declared.entry.Entry.{Entry}
use Rattle.dp_audit.specs.declared.fault.AuditFault.{AuditFault}
use Rattle.dp_audit.specs.EventWays.{Way, meets_halt, is_refused, brings_halt, is_recorded}
use Rattle.dp_audit.specs.Legal.{Follows, IsLegal, after_entries, after_entry}
use Rattle.dp_audit.specs.AuditText.{entry_text}
use Rattle.dp_audit.specs.Check.{IsAuditOf, checked, places_of_header}
use Rattle.dp_audit.proofs.Judged.{entry_judged}
use Rattle.dp_audit.proofs.Parts.{NumbersAreRead, EventsAreRead}
use Rattle.dp_audit.proofs.Texts.{HasRoom, room_at_header, room_kept, small_place}
use Rattle.explain_events.specs.EventContexts.{EventContextView}
use Rattle.explain_texts.specs.declared.choice.Choice.{Choice}
use Rattle.explain_texts.specs.declared.hold.Hold.{Hold}
use Rattle.explain_texts.specs.Holds.{holds_ended, holds_lasting}
use Rattle.explain_texts.specs.Known.{KnownView, first_known, first_world, known_after, known_with, outcome_reported, outcome_with}
use Rattle.explain_texts.specs.Explained.{chosen_entry, ended_by, ended_by_row, ended_by_rows, event_of_row, explained_by, known_behind, last_known, last_world, right_rows, reported_event, reported_row, reported_rows, reported_text, summary_of, world_behind}
use Rattle.explain_texts.specs.JournalReported.{IsExplainedByItsEntries, ended_by_entries, known_behind_entries, known_behind_entry, reported_entries}
use Rattle.explain_texts.specs.Reported.{Reported, reports_verdict}
use Rattle.explain_texts.proofs.Rows.{places_are, row_is_read, rows_are}

-- ---- taking a recorded event has the result that its entry states

pub record IsTaken (world : World) (entry : Entry) : Type 0 where
  pub left : (step world entry.event).world ≡ after_entry world entry
  pub place : world.count + 1 ≡ entry.place
  pub outcome : outcome_reported world entry.event ≡ entry.outcome

halt_outcome : (world : World) → outcome_of world (Operator Halt) ≡ Released (record { items = held_addresses world })
unfolding outcome_of
halt_outcome world = refl

effect_outcome : (world : World) (event : Event) → outcome_with (effect world event).answer.outcome (effect world event).answer.halted ≡ outcome_of world event
unfolding effect
effect_outcome world event = refl

pub taken_by : (world : World) (entry : Entry) → Follows world entry → Way world entry.event → IsTaken world entry
taken_by world entry follows (meets_halt halted is none) = absurd (let e : true ≡ false = sym halted ∙ follows.running in cc)
taken_by world entry follows (is_refused fault running faulty is none) = absurd (let e : ◌≡◌ {A = Option OperatorFault} (Some fault) None = sym faulty ∙ follows.fits in cc)
taken_by world entry follows (brings_halt last is one other) = record {
  left = ap (λ (s : Stepped). s.world) is ∙ sym (ap (λ (event : Event). (effect world event).world) (follows.halts_at_last last));
  place = sym follows.place;
  outcome =
      ap (λ (s : Stepped). outcome_with s.answer.outcome s.answer.halted) is
      ∙ sym (follows.outcome ∙ ap (outcome_of world) (follows.halts_at_last last) ∙ halt_outcome world);
}
taken_by world entry follows (is_recorded room is one other) = record {
  left = ap (λ (s : Stepped). s.world) is;
  place = sym follows.place;
  outcome =
      ap (λ (s : Stepped). outcome_with s.answer.outcome s.answer.halted) is
      ∙ effect_outcome world entry.event ∙ sym follows.outcome;
}

-- ---- one entry

chosen_same : (choice : Choice) (context : EventContextView) (left after : World) (place next : ℕ) (event : Event) (reported outcome : Outcome) → left ≡ after → place ≡ next → reported ≡ outcome
    → chosen_entry choice context left place event reported ≡ chosen_entry choice context after next event outcome
chosen_same choice context left after place next event reported outcome a b c = rw (a, b, c) refl

known_same : (known : KnownView) (left after : World) (place next : ℕ) (event : Event) (reported outcome : Outcome) → left ≡ after → place ≡ next → reported ≡ outcome
    → known_with known left place event reported ≡ known_with known after next event outcome
known_same known left after place next event reported outcome a b c = rw (a, b, c) refl

ended_same : (world left after : World) (place next : ℕ) (event : Event) (reported outcome : Outcome) → left ≡ after → place ≡ next → reported ≡ outcome
    → holds_ended world left place event reported ≡ holds_ended world after next event outcome
ended_same world left after place next event reported outcome a b c = rw (a, b, c) refl

event_reported : (choice : Choice) (known : KnownView) (entry : Entry) → IsTaken known.context.world entry
    → reported_event choice known.context entry.event ≡ chosen_entry choice known.context (after_entry known.context.world entry) entry.place entry.event entry.outcome
event_reported choice known entry t = chosen_same choice known.context _ _ _ _ entry.event _ _ t.left t.place t.outcome

event_known : (known : KnownView) (entry : Entry) → IsTaken known.context.world entry → known_after known entry.event ≡ known_behind_entry known entry
event_known known entry t = known_same known _ _ _ _ entry.event _ _ t.left t.place t.outcome

event_ended : (world : World) (entry : Entry) → IsTaken world entry → ended_by world entry.event ≡ holds_ended world (after_entry world entry) entry.place entry.event entry.outcome
event_ended world entry t = ended_same world _ _ _ _ entry.event _ _ t.left t.place t.outcome

-- ---- all entries

abbrev Ways : Type 0
Ways = (world : World) → (event : Event) → Way world event

entry_read : NumbersAreRead → EventsAreRead → (world : World) (entry : Entry) → Follows world entry → IsWithinLimits entry.event → HasRoom world → event_of_row (entry_text entry) ≡ Some entry.event
entry_read numbers events world entry follows limits room =
    row_is_read world (entry_text entry) entry.event (entry_judged numbers events world entry follows (small_place world entry follows room) limits)

abbrev AreWithinLimits : List Entry → Type 0
AreWithinLimits = AllByRecursion (λ entry. IsWithinLimits entry.event)

entries_reported : Ways → NumbersAreRead → EventsAreRead → (choice : Choice) (known : KnownView) (entries : List Entry) → IsLegal known.context.world entries → AreWithinLimits entries → HasRoom known.context.world
    → reported_rows choice known (map entry_text entries) ≡ reported_entries choice known entries
entries_reported ways numbers events choice known [] legal limits room = refl
entries_reported ways numbers events choice known (entry ∷ entries) legal limits room =
    let world = known.context.world in
    let rows = map entry_text entries in
    let taken = taken_by world entry legal.0 (ways world entry.event) in
    ap (λ (event : Option Event). reported_row choice known event ++ reported_rows choice (known_behind known event) rows) (entry_read numbers events world entry legal.0 limits.0 room)
    ∙ ap (λ (facts : List Reported). facts ++ reported_rows choice (known_after known entry.event) rows) (event_reported choice known entry taken)
    ∙ ap (λ (k : KnownView). chosen_entry choice known.context (after_entry world entry) entry.place entry.event entry.outcome ++ reported_rows choice k rows) (event_known known entry taken)
    ∙ ap (λ (facts : List Reported). chosen_entry choice known.context (after_entry world entry) entry.place entry.event entry.outcome ++ facts)
    (entries_reported ways numbers events choice (known_behind_entry known entry) entries legal.1 limits.1 (room_kept world entry legal.0 room))

entries_known : Ways → NumbersAreRead → EventsAreRead → (known : KnownView) (entries : List Entry) → IsLegal known.context.world entries → AreWithinLimits entries → HasRoom known.context.world
    → last_known known (map entry_text entries) ≡ known_behind_entries known entries
entries_known ways numbers events known [] legal limits room = refl
entries_known ways numbers events known (entry ∷ entries) legal limits room =
    let world = known.context.world in
    let rows = map entry_text entries in
    let taken = taken_by world entry legal.0 (ways world entry.event) in
    ap (λ (event : Option Event). last_known (known_behind known event) rows) (entry_read numbers events world entry legal.0 limits.0 room)
    ∙ ap (λ (k : KnownView). last_known k rows) (event_known known entry taken)
    ∙ entries_known ways numbers events (known_behind_entry known entry) entries legal.1 limits.1 (room_kept world entry legal.0 room)

entries_ended : Ways → NumbersAreRead → EventsAreRead → (world : World) (entries : List Entry) → IsLegal world entries → AreWithinLimits entries → HasRoom world
    → ended_by_rows world (map entry_text entries) ≡ ended_by_entries world entries
entries_ended ways numbers events world [] legal limits room = refl
entries_ended ways numbers events world (entry ∷ entries) legal limits room =
    let rows = map entry_text entries in
    let taken = taken_by world entry legal.0 (ways world entry.event) in
    let ended = holds_ended world (after_entry world entry) entry.place entry.event entry.outcome in
    ap (λ (event : Option Event). ended_by_row world event ++ ended_by_rows (world_behind world event) rows) (entry_read numbers events world entry legal.0 limits.0 room)
    ∙ ap (λ (holds : List Hold). holds ++ ended_by_rows (step world entry.event).world rows) (event_ended world entry taken)
    ∙ ap (λ (w : World). ended ++ ended_by_rows w rows) taken.left
    ∙ ap (λ (holds : List Hold). ended ++ holds) (entries_ended ways numbers events (after_entry world entry) entries legal.1 limits.1 (room_kept world entry legal.0 room))

entries_left : Ways → NumbersAreRead → EventsAreRead → (world : World) (entries : List Entry) → IsLegal world entries → AreWithinLimits entries → HasRoom world
    → last_world world (map entry_text entries) ≡ after_entries world entries
entries_left ways numbers events world [] legal limits room = refl
entries_left ways numbers events world (entry ∷ entries) legal limits room =
    let rows = map entry_text entries in
    let taken = taken_by world entry legal.0 (ways world entry.event) in
    ap (λ (event : Option Event). last_world (world_behind world event) rows) (entry_read numbers events world entry legal.0 limits.0 room)
    ∙ ap (λ (w : World). last_world w rows) taken.left
    ∙ entries_left ways numbers events (after_entry world entry) entries legal.1 limits.1 (room_kept world entry legal.0 room)

-- ---- the explanation

abbrev legal : ℕ → Result ℕ AuditFault
legal count = Ok count

whole_same : (a x : List Reported) (b c y z : List Hold) (d v : KnownView) (e w : Result ℕ AuditFault) → a ≡ x → b ≡ y → c ≡ z → d ≡ v → e ≡ w
    → a ++ summary_of (b ++ c) d ∷ reports_verdict e ∷ [] ≡ x ++ summary_of (y ++ z) v ∷ reports_verdict w ∷ []
whole_same a x b c y z d v e w first second third fourth fifth = rw (first, second, third, fourth, fifth) refl

pub reported_by_entries : Ways → NumbersAreRead → EventsAreRead → ((line : Description) (text : List ℕ) (count : ℕ) → opening_fault line ≡ None → IsAuditOf line text count → checked line text ≡ Ok count) → IsExplainedByItsEntries
reported_by_entries ways numbers events accepted line text count choice opens audit =
    let places = places_of_header line audit.header in
    let start = first_known line places in
    let world = first_world line places in
    let entries = audit.entries in
    let room = room_at_header line audit.header opens in
    ap (λ (verdict : Result ℕ AuditFault). explained_by verdict line text choice) (accepted line text count opens audit)
    ∙ ap (λ (n : ℕ). reported_text line n (right_rows (Ok count) text) choice (Ok count)) (places_are line text count audit)
    ∙ ap (λ (lines : List (List ℕ)). reported_text line places lines choice (Ok count)) (rows_are line text count audit)
    ∙ whole_same _ _ _ _ _ _ _ _ _ _
    (entries_reported ways numbers events choice start entries audit.legal audit.limits room)
    (entries_ended ways numbers events world entries audit.legal audit.limits room)
    (ap (λ (w : World). holds_lasting w line.slaves) (entries_left ways numbers events world entries audit.legal audit.limits room))
    (entries_known ways numbers events start entries audit.legal audit.limits room)
    (ap (λ (n : ℕ). legal n) (sym audit.counted))
