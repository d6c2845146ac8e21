-- Legal journals are runs, and the journals of runs are legal.
use Rattle.std.proofs.Common.{◌≡◌, ℕ, ◌+◌, Bool, true, false, cond, List, [], ◌∷◌, ◌++◌, length, map, Option, Some, None, refl, sym, ap, subst, ◌∙◌, append-nil, append_assoc, arith}
use Rattle.std.specs.Prelude.{nat_le}
use Rattle.arrayvec.specs.ArrayVec.{ArrayVec}
use Rattle.dp_line.specs.declared.event.Event.{Event}
use Rattle.dp_line.specs.declared.event.Event.TheVariants.{Operator}
use Rattle.dp_line.specs.declared.event.Op.TheVariants.{Halt}
use Rattle.dp_line.specs.declared.event.Outcome.{Outcome}
use Rattle.dp_line.specs.declared.event.Outcome.TheVariants.{Refused, Released}
use Rattle.dp_line.specs.declared.event.Step.{Step}
use Rattle.dp_line.specs.declared.fault.OperatorFault.{OperatorFault}
use Rattle.dp_line.specs.declared.fault.OperatorFault.TheVariants as faults
use Rattle.dp_line.specs.World.{World, is_last_place}
use Rattle.dp_line.specs.Events.{operator_fault}
use Rattle.dp_line.specs.Effects.{Stepped, effect, halted_world, held_addresses, outcome_of}
use Rattle.dp_line.specs.Steps.{reported_halted, run, step, unrecorded}
use Rattle.dp_audit.specs.declared.entry.Entry.{Entry}
use Rattle.dp_audit.specs.Journal.{Journal, added, taken}
use Rattle.dp_audit.specs.Legal.{Follows, IsLegal, after_entries, after_entry}
use Rattle.dp_audit.specs.EventWays.{Way, meets_halt, is_refused, brings_halt, is_recorded}
use Rattle.dp_audit.specs.JournalRuns.{answer_of, answer_recorded, answer_replaced, entries_added, entries_reported, entry_reported, event_reported, events_of, halt_reported, released_in, taken_each}
use Rattle.dp_audit.proofs.Histories.{added_reported, reported_at, reported_unplaced, way}

-- ---- the step of the event of an entry

-- what the step of an entry's event leaves and answers
pub record IsStepped (world : World) (entry : Entry) (last : Bool) : Type 0 where
  pub world_is : (step world entry.event).world ≡ after_entry world entry
  pub answer_is : (step world entry.event).answer ≡ cond last (answer_replaced entry) (answer_recorded entry)

-- the entry at the last place is that of the halt
halt_is : (world : World) (entry : Entry) → Follows world entry → entry.event ≡ Operator Halt → entry.outcome ≡ Released (record { items = held_addresses world })
unfolding outcome_of
halt_is world entry follows is = follows.outcome ∙ ap (outcome_of world) is

replaced_is : (world : World) (entry : Entry) → Follows world entry → entry.event ≡ Operator Halt
    → unrecorded (reported_halted entry.event) (Some (held_addresses world)) ≡ answer_replaced entry
replaced_is world entry follows is =
    ap (λ (e : Event). unrecorded (reported_halted e) (Some (held_addresses world))) is
    ∙ ap (λ (o : Outcome). record { place = None; facts = None; outcome = Refused faults.Halted; halted = released_in o }) (sym (halt_is world entry follows is))

recorded_is : (world : World) (entry : Entry) → Follows world entry → (effect world entry.event).answer ≡ answer_recorded entry
unfolding effect
recorded_is world entry follows =
    rw (follows.place, follows.facts, follows.outcome) refl

fault_none : (fault : OperatorFault) {X : Type 0} (fit : Option OperatorFault) → fit ≡ Some fault → fit ≡ None → X
fault_none fault fit some none = (let no : Some fault ≡ None = sym some ∙ none in absurd cc)

stepped_way : (world : World) (entry : Entry) → Follows world entry → Way world entry.event → IsStepped world entry (is_last_place world)
stepped_way world entry follows (meets_halt halted is none) = (let no : true ≡ false = sym halted ∙ follows.running in absurd cc)
stepped_way world entry follows (is_refused fault running faulty is none) = fault_none fault (operator_fault world entry.event) faulty follows.fits
stepped_way world entry follows (brings_halt last is one it) =
    let halt = follows.halts_at_last last in record {
      world_is = ap (λ (s : Stepped). s.world) is ∙ ap (λ (e : Event). (effect world e).world) (sym halt);
      answer_is = ap (λ (s : Stepped). s.answer) is ∙ replaced_is world entry follows halt ∙ ap (λ (b : Bool). cond b (answer_replaced entry) (answer_recorded entry)) (sym last);
    }
stepped_way world entry follows (is_recorded room is one it) = record {
  world_is = ap (λ (s : Stepped). s.world) is;
  answer_is = ap (λ (s : Stepped). s.answer) is ∙ recorded_is world entry follows ∙ ap (λ (b : Bool). cond b (answer_replaced entry) (answer_recorded entry)) (sym room);
}

pub stepped : (world : World) (entry : Entry) → Follows world entry → IsStepped world entry (is_last_place world)
stepped world entry follows = stepped_way world entry follows (way world entry.event)

pub answered : (world : World) (entry : Entry) → Follows world entry → (step world entry.event).answer ≡ answer_of world.capacity entry
answered world entry follows =
    (stepped world entry follows).answer_is
    ∙ ap (λ (place : ℕ). cond (nat_le world.capacity place) (answer_replaced entry) (answer_recorded entry)) (sym follows.place)

-- ---- a legal journal is the run of its events

pub capacity_stays : (world : World) (entry : Entry) → (after_entry world entry).capacity ≡ world.capacity
unfolding effect
capacity_stays world entry = refl

pub count_grows : (world : World) (entry : Entry) → (after_entry world entry).count ≡ world.count + 1
unfolding effect
count_grows world entry = refl

pub is_run : (world : World) (entries : List Entry) → IsLegal world entries → after_entries world entries ≡ (run world (events_of entries)).world
is_run world [] legal = refl
is_run world (entry ∷ entries) legal =
    is_run (after_entry world entry) entries legal.1
    ∙ ap (λ (w : World). (run w (events_of entries)).world) (sym (stepped world entry legal.0).world_is)

pub are_answers : (world : World) (entries : List Entry) → IsLegal world entries → (run world (events_of entries)).answers ≡ map (answer_of world.capacity) entries
are_answers world [] legal = refl
are_answers world (entry ∷ entries) legal =
    ap (λ (a : Step). a ∷ (run (step world entry.event).world (events_of entries)).answers) (answered world entry legal.0)
    ∙ ap (λ (l : List Step). answer_of world.capacity entry ∷ l)
    (ap (λ (w : World). (run w (events_of entries)).answers) (stepped world entry legal.0).world_is ∙ are_answers (after_entry world entry) entries legal.1
    ∙ ap (λ (n : ℕ). map (answer_of n) entries) (capacity_stays world entry))

-- ---- journals in pieces

pub after_both : (world : World) (before rest : List Entry) → after_entries world (before ++ rest) ≡ after_entries (after_entries world before) rest
after_both world [] rest = refl
after_both world (entry ∷ before) rest = after_both (after_entry world entry) before rest

pub legal_before : (world : World) (before rest : List Entry) → IsLegal world (before ++ rest) → IsLegal world before
legal_before world [] rest legal = tt
legal_before world (entry ∷ before) rest legal = (legal.0, legal_before (after_entry world entry) before rest legal.1)

pub legal_behind : (world : World) (before rest : List Entry) → IsLegal world (before ++ rest) → IsLegal (after_entries world before) rest
legal_behind world [] rest legal = legal
legal_behind world (entry ∷ before) rest legal = legal_behind (after_entry world entry) before rest legal.1

pub legal_both : (world : World) (before rest : List Entry) → IsLegal world before → IsLegal (after_entries world before) rest → IsLegal world (before ++ rest)
legal_both world [] rest legal behind = behind
legal_both world (entry ∷ before) rest legal behind = (legal.0, legal_both (after_entry world entry) before rest legal.1 behind)

pub counts : (world : World) (entries : List Entry) → (after_entries world entries).count ≡ world.count + length entries
counts world [] = omega arith
counts world (entry ∷ entries) = omega (arith, counts (after_entry world entry) entries, count_grows world entry)

pub same_capacity : (world : World) (entries : List Entry) → (after_entries world entries).capacity ≡ world.capacity
same_capacity world [] = refl
same_capacity world (entry ∷ entries) = same_capacity (after_entry world entry) entries ∙ capacity_stays world entry

-- ---- any event that fits at the last place

run_more : (world : World) (events : List Event) (event : Event) → (run world (events ++ event ∷ [])).world ≡ (step (run world events).world event).world
run_more world [] event = refl
run_more world (first ∷ events) event = run_more (step world first).world events event

fitting_way : (world : World) (event : Event) → world.halted ≡ false → operator_fault world event ≡ None → is_last_place world ≡ true → Way world event
    → (step world event).world ≡ halted_world world
fitting_way world event running fits last (meets_halt halted is none) = (let no : true ≡ false = sym halted ∙ running in absurd cc)
fitting_way world event running fits last (is_refused fault on faulty is none) = fault_none fault (operator_fault world event) faulty fits
fitting_way world event running fits last (brings_halt at is one it) = ap (λ (s : Stepped). s.world) is
fitting_way world event running fits last (is_recorded room is one it) = (let no : true ≡ false = sym last ∙ room in absurd cc)

pub stands_for : (world : World) (entries : List Entry) (halt : Entry) (event : Event) → IsLegal world (entries ++ halt ∷ []) → is_last_place (after_entries world entries) ≡ true
    → operator_fault (after_entries world entries) event ≡ None
    → (halt.event ≡ Operator Halt) × ((run world (events_of entries ++ event ∷ [])).world ≡ after_entries world (entries ++ halt ∷ []))
stands_for world entries halt event legal last fits =
    let now = after_entries world entries in
    let follows : Follows now halt = (legal_behind world entries (halt ∷ []) legal).0 in
    let is_halt = follows.halts_at_last last in (
      is_halt,
      run_more world (events_of entries) event
          ∙ ap (λ (w : World). (step w event).world) (sym (is_run world entries (legal_before world entries (halt ∷ []) legal)))
          ∙ fitting_way now event follows.running fits last (way now event)
          ∙ ap (λ (e : Event). (effect now e).world) (sym is_halt)
          ∙ sym (after_both world entries (halt ∷ [])),
    )

-- ---- the journal of a run

-- what an event adds is legal, and results in the world that its step leaves
pub record IsAdded (world : World) (event : Event) (more : List Entry) : Type 0 where
  pub legal : IsLegal world more
  pub after : after_entries world more ≡ (step world event).world

added_way : (world : World) (event : Event) → Way world event → IsAdded world event (added world event)
unfolding effect
added_way world event (meets_halt halted is none) = subst (IsAdded world event) (sym none) (record { legal = tt; after = sym (ap (λ (s : Stepped). s.world) is) })
added_way world event (is_refused fault running faulty is none) = subst (IsAdded world event) (sym none) (record { legal = tt; after = sym (ap (λ (s : Stepped). s.world) is) })
added_way world event (brings_halt last is one follows) =
    subst (IsAdded world event) (sym one) (record { legal = (follows, tt); after = sym (ap (λ (s : Stepped). s.world) is) })
added_way world event (is_recorded room is one follows) =
    subst (IsAdded world event) (sym one) (record { legal = (follows, tt); after = sym (ap (λ (s : Stepped). s.world) is) })

one_added : (world : World) (event : Event) → IsAdded world event (added world event)
one_added world event = added_way world event (way world event)

pub added_after : (world : World) (events : List Event) → after_entries world (entries_added world events) ≡ (run world events).world
added_after world [] = refl
added_after world (event ∷ events) =
    after_both world (added world event) (entries_added (step world event).world events)
    ∙ ap (λ (w : World). after_entries w (entries_added (step world event).world events)) (one_added world event).after
    ∙ added_after (step world event).world events

pub added_legal : (world : World) (events : List Event) → IsLegal world (entries_added world events)
added_legal world [] = tt
added_legal world (event ∷ events) =
    legal_both world (added world event) (entries_added (step world event).world events) (one_added world event).legal
    (subst (λ (w : World). IsLegal w (entries_added (step world event).world events)) (sym (one_added world event).after) (added_legal (step world event).world events))

-- what an event adds, by the answer
unplaced_same : (place : ℕ) (halted : Option (ArrayVec ℕ)) → reported_unplaced place halted ≡ halt_reported place halted
unplaced_same place (Some addresses) = refl
unplaced_same place None = refl

at_same : (event : Event) (answer : Step) (next : ℕ) (place : Option ℕ) → reported_at event answer next place ≡ event_reported next event answer place
at_same event answer next (Some place) = refl
at_same event answer next None = unplaced_same next answer.halted

one_reported : (world : World) (event : Event) → added world event ≡ entry_reported (world.count + 1) event (step world event).answer
one_reported world event = added_reported world event ∙ at_same event (step world event).answer (world.count + 1) (step world event).answer.place

one_counts : (world : World) (event : Event) → (step world event).world.count ≡ world.count + length (added world event)
one_counts world event = ap (λ (w : World). w.count) (sym (one_added world event).after) ∙ counts world (added world event)

pub added_are_reported : (world : World) (events : List Event) → entries_added world events ≡ entries_reported (world.count + 1) events (run world events).answers
added_are_reported world [] = refl
added_are_reported world (event ∷ events) =
    let after = (step world event).world in
    let own = one_reported world event in
    let answers = (run after events).answers in
    let next : after.count + 1 ≡ world.count + 1 + length (added world event) = omega (arith, one_counts world event) in
    ap (λ (l : List Entry). added world event ++ l) (added_are_reported after events ∙ ap (λ (n : ℕ). entries_reported n events answers) next)
    ∙ ap (λ (l : List Entry). l ++ entries_reported (world.count + 1 + length l) events answers) own

-- ---- the journal after events

one_taken : (journal : Journal) (event : Event) → (taken journal event).entries ≡ journal.entries ++ added journal.state.world event
unfolding taken
one_taken journal event = refl

one_left : (journal : Journal) (event : Event) → (taken journal event).state.world ≡ (step journal.state.world event).world
unfolding taken
one_left journal event = refl

pub taken_world : (journal : Journal) (events : List Event) → (taken_each journal events).state.world ≡ (run journal.state.world events).world
taken_world journal [] = refl
taken_world journal (event ∷ events) = taken_world (taken journal event) events ∙ ap (λ (w : World). (run w events).world) (one_left journal event)

pub taken_entries : (journal : Journal) (events : List Event) → (taken_each journal events).entries ≡ journal.entries ++ entries_added journal.state.world events
taken_entries journal [] = sym (append-nil journal.entries)
taken_entries journal (event ∷ events) =
    taken_entries (taken journal event) events
    ∙ ap (λ (l : List Entry). l ++ entries_added (taken journal event).state.world events) (one_taken journal event)
    ∙ ap (λ (w : World). (journal.entries ++ added journal.state.world event) ++ entries_added w events) (one_left journal event)
    ∙ append_assoc journal.entries (added journal.state.world event) (entries_added (step journal.state.world event).world events)

-- ---- an entry among others

pub entry_follows : (world : World) (before rest : List Entry) (entry : Entry) → IsLegal world (before ++ entry ∷ rest) → Follows (run world (events_of before)).world entry
entry_follows world before rest entry legal =
    subst (λ (w : World). Follows w entry) (is_run world before (legal_before world before (entry ∷ rest) legal)) (legal_behind world before (entry ∷ rest) legal).0

pub entry_place : (world : World) (before rest : List Entry) (entry : Entry) → IsLegal world (before ++ entry ∷ rest) → entry.place ≡ world.count + length before + 1
entry_place world before rest entry legal =
    (legal_behind world before (entry ∷ rest) legal).0.place ∙ ap (λ (n : ℕ). n + 1) (counts world before)

pub entry_answer : (world : World) (before rest : List Entry) (entry : Entry) → IsLegal world (before ++ entry ∷ rest)
    → (step (run world (events_of before)).world entry.event).answer ≡ answer_of world.capacity entry
entry_answer world before rest entry legal =
    answered (run world (events_of before)).world entry (entry_follows world before rest entry legal)
    ∙ ap (λ (n : ℕ). answer_of n entry)
    (ap (λ (w : World). w.capacity) (sym (is_run world before (legal_before world before (entry ∷ rest) legal))) ∙ same_capacity world before)

pub entry_world : (world : World) (before rest : List Entry) (entry : Entry) → IsLegal world (before ++ entry ∷ rest)
    → after_entries world (before ++ entry ∷ []) ≡ (step (run world (events_of before)).world entry.event).world
entry_world world before rest entry legal =
    after_both world before (entry ∷ [])
    ∙ ap (λ (w : World). after_entry w entry) (is_run world before (legal_before world before (entry ∷ rest) legal))
    ∙ sym (stepped (run world (events_of before)).world entry (entry_follows world before rest entry legal)).world_is
