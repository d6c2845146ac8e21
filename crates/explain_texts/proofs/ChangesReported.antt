-- The rows of changes and the ended holds that are written are those of all slaves.
use Rattle.std.proofs.Common.{◌≡◌, ℕ, Bool, true, false, cond, eqb, List, [], ◌∷◌, ◌++◌, map, Option, Some, None, refl, sym, ap, subst, ◌∙◌, arith}
use Rattle.std.specs.Prelude.{is_none, option_map}
use Rattle.std.specs.List.{AllByRecursion, filter, flat_map, list_any}
use Rattle.std.proofs.lemmas.Bool.{both_ways, cond-false, cond-true, eqb-true, eq-eqb, ne_eqb}
use Rattle.std.proofs.lemmas.List.{append-nil}
use Rattle.std.proofs.lemmas.List.Concat.{flat_map-cons}
use Rattle.dp_telegram.specs.FrameText.{frame_of}
use Rattle.dp_sap.specs.States.{is_in_wait_prm}
use Rattle.dp_slave.specs.SlaveRecord.{SlaveRecord, is_held}
use Rattle.dp_line.specs.declared.event.Event.{Event}
use Rattle.dp_line.specs.declared.event.Event.TheVariants.{Request, Operator}
use Rattle.dp_line.specs.declared.event.Op.{Op}
use Rattle.dp_line.specs.declared.event.Op.TheVariants.{Input, Diag, Busy, Tick, Halt}
use Rattle.dp_line.specs.World.{AreAbove, Ascend, Description, World, address_of_slave, slave_among, slave_at, start_of}
use Rattle.dp_line.specs.Events.{expires}
use Rattle.dp_line.specs.Effects.{addresses_where, outcome_of, slave_after, state_and_holder}
use Rattle.dp_line.specs.Isolation.{IsOfALine}
use Rattle.dp_audit.specs.declared.entry.Entry.{Entry}
use Rattle.dp_audit.specs.Legal.{Follows, IsLegal, after_entries, after_entry}
use Rattle.explain_events.specs.declared.sender_and_receiver.Receiver.{Receiver}
use Rattle.explain_events.specs.declared.sender_and_receiver.Receiver.TheVariants.{Slave, AllSlaves, Station, Nobody}
use Rattle.explain_events.specs.Heads.{receiver_of_frame}
use Rattle.explain_events.specs.Changes.{asked_addresses, change_of, change_rows, touched}
use Rattle.explain_texts.specs.Holds.{ended_at, holds_ended}
use Rattle.explain_texts.specs.StateAndHolder.{state_and_holder_at}
use Rattle.explain_texts.proofs.Reached.{at_after}
use Rattle.explain_texts.proofs.UnchangedSlaves.{Ways, LinesHave, found_is, halt_state_and_holder, is_touched, journal_line, last_of, stays_without_end, stays_without_row, tick_state_and_holder, untouched_world}

-- ---- the rows that are written

none_rows : {T : Type 0} (f : ℕ → List T) (slaves : List SlaveRecord) → AllByRecursion (λ slave. f (address_of_slave slave) ≡ []) slaves → flat_map f (map address_of_slave slaves) ≡ []
none_rows f [] none = refl
none_rows f (slave ∷ slaves) none =
    flat_map-cons f (address_of_slave slave) (map address_of_slave slaves)
    ∙ ap (λ text. text ++ flat_map f (map address_of_slave slaves)) none.0
    ∙ none_rows f slaves none.1

kept_row : {T : Type 0} (f : ℕ → List T) (slave : SlaveRecord) (some all : List SlaveRecord) (b : Bool) → (b ≡ false → f (address_of_slave slave) ≡ [])
    → flat_map f (map address_of_slave some) ≡ flat_map f (map address_of_slave all)
    → flat_map f (map address_of_slave (cond b (slave ∷ some) some)) ≡ flat_map f (map address_of_slave (slave ∷ all))
kept_row f slave some all true none same =
    flat_map-cons f (address_of_slave slave) (map address_of_slave some)
    ∙ ap (λ text. f (address_of_slave slave) ++ text) same
    ∙ sym (flat_map-cons f (address_of_slave slave) (map address_of_slave all))
kept_row f slave some all false none same =
    same
    ∙ ap (λ text. text ++ flat_map f (map address_of_slave all)) (sym (none refl))
    ∙ sym (flat_map-cons f (address_of_slave slave) (map address_of_slave all))

kept_rows : {T : Type 0} (f : ℕ → List T) (holds : SlaveRecord → Bool) (slaves : List SlaveRecord) → AllByRecursion (λ slave. holds slave ≡ false → f (address_of_slave slave) ≡ []) slaves
    → flat_map f (map address_of_slave (filter holds slaves)) ≡ flat_map f (map address_of_slave slaves)
kept_rows f holds [] none = refl
kept_rows f holds (slave ∷ slaves) none = kept_row f slave (filter holds slaves) slaves (holds slave) none.0 (kept_rows f holds slaves none.1)

none_above : {T : Type 0} (f : ℕ → List T) (address first : ℕ) (slaves : List SlaveRecord) → first ≡ address → AreAbove first slaves
    → AllByRecursion (λ slave. eqb (address_of_slave slave) address ≡ false → f (address_of_slave slave) ≡ []) slaves → AllByRecursion (λ slave. f (address_of_slave slave) ≡ []) slaves
none_above f address first [] same above none = tt
none_above f address first (slave ∷ slaves) same above none =
    (none.0 (ne_eqb (address_of_slave slave) address (λ e. omega (arith, above.0))), none_above f address first slaves same above.1 none.1)

one_by : {T : Type 0} (f : ℕ → List T) (address : ℕ) (first : SlaveRecord) (slaves : List SlaveRecord) (b : Bool) → eqb (address_of_slave first) address ≡ b → AreAbove (address_of_slave first) slaves
    → (b ≡ false → f (address_of_slave first) ≡ [])
    → AllByRecursion (λ slave. eqb (address_of_slave slave) address ≡ false → f (address_of_slave slave) ≡ []) slaves
    → (b ≡ false → flat_map f (map address_of_slave slaves) ≡ f address) → flat_map f (map address_of_slave (first ∷ slaves)) ≡ f address
one_by f address first slaves true e above none others more =
    let same = eqb-true (address_of_slave first) address e in
    flat_map-cons f (address_of_slave first) (map address_of_slave slaves)
    ∙ ap (λ text. f (address_of_slave first) ++ text) (none_rows f slaves (none_above f address (address_of_slave first) slaves same above others))
    ∙ append-nil (f (address_of_slave first))
    ∙ ap f same
one_by f address first slaves false e above none others more =
    flat_map-cons f (address_of_slave first) (map address_of_slave slaves)
    ∙ ap (λ text. text ++ flat_map f (map address_of_slave slaves)) (none refl)
    ∙ more refl

none_found : (first : SlaveRecord) (address : ℕ) (found : Option SlaveRecord) (b : Bool) → b ≡ false → found ≡ None → cond b (Some first) found ≡ None
none_found first address found true e none = absurd cc
none_found first address found false e none = none

-- only the row of one address
one_row : {T : Type 0} (f : ℕ → List T) (address : ℕ) (slaves : List SlaveRecord) → Ascend slaves → (slave_among slaves address ≡ None → f address ≡ [])
    → AllByRecursion (λ slave. eqb (address_of_slave slave) address ≡ false → f (address_of_slave slave) ≡ []) slaves → flat_map f (map address_of_slave slaves) ≡ f address
one_row f address [] ascend absent none = sym (absent refl)
one_row f address (first ∷ slaves) ascend absent none =
    let b = eqb (address_of_slave first) address in
    one_by f address first slaves b refl ascend.0 none.0 none.1
    (λ other. one_row f address slaves ascend.1 (λ gone. absent (none_found first address (slave_among slaves address) b other gone)) none.1)

-- a slave of a line in ascending order is the one that is found by its address
behind_self : (first : SlaveRecord) (all others : List SlaveRecord) → AreAbove (address_of_slave first) others → AllByRecursion (λ slave. slave_among all (address_of_slave slave) ≡ Some slave) others
    → AllByRecursion (λ slave. slave_among (first ∷ all) (address_of_slave slave) ≡ Some slave) others
behind_self first all [] above found = tt
behind_self first all (slave ∷ others) above found = (
  cond-false (eqb (address_of_slave first) (address_of_slave slave)) (Some first) (slave_among all (address_of_slave slave))
      (ne_eqb (address_of_slave first) (address_of_slave slave) (λ e. omega (arith, above.0)))
      ∙ found.0,
  behind_self first all others above.1 found.1,
)

found_self : (slaves : List SlaveRecord) → Ascend slaves → AllByRecursion (λ slave. slave_among slaves (address_of_slave slave) ≡ Some slave) slaves
found_self [] ascend = tt
found_self (first ∷ slaves) ascend = (
  cond-true (eqb (address_of_slave first) (address_of_slave first)) (Some first) (slave_among slaves (address_of_slave first)) (eq-eqb (address_of_slave first) (address_of_slave first) refl),
  behind_self first slaves slaves ascend.0 (found_self slaves ascend.1),
)

each_is : (P Q : SlaveRecord → Type 0) (slaves : List SlaveRecord) → ((slave : SlaveRecord) → P slave → Q slave) → AllByRecursion P slaves → AllByRecursion Q slaves
each_is P Q [] each all = tt
each_is P Q (slave ∷ slaves) each all = (each slave all.0, each_is P Q slaves each all.1)

every : (P : SlaveRecord → Type 0) (slaves : List SlaveRecord) → ((slave : SlaveRecord) → P slave) → AllByRecursion P slaves
every P [] each = tt
every P (slave ∷ slaves) each = (each slave, every P slaves each)

-- a text for each slave, which is empty if the entry leaves state and holder of the slave unchanged
abbrev pub ShowsChanges : {T : Type 0} → World → Entry → (ℕ → List T) → Type 0
ShowsChanges world entry row = (address : ℕ) → state_and_holder_at (after_entry world entry) address ≡ state_and_holder_at world address → row address ≡ []

-- a slave that an event can't change has no text
no_row_there : {T : Type 0} (world : World) (entry : Entry) (row : ℕ → List T) (address : ℕ) → ShowsChanges world entry row → IsOfALine world → Follows world entry
    → is_touched address entry.event entry.outcome ≡ false → row address ≡ []
no_row_there world entry row address shows line follows out = shows address (untouched_world world entry address line follows out)

nobody_there : {T : Type 0} (world : World) (entry : Entry) (row : ℕ → List T) (address : ℕ) → ShowsChanges world entry row → slave_at world address ≡ None → row address ≡ []
nobody_there world entry row address shows none =
    shows address (
    ap (option_map state_and_holder) (at_after world entry.event address ∙ ap (option_map (slave_after world entry.event)) none)
    ∙ sym (ap (option_map state_and_holder) none))

kept_by : {T : Type 0} (world : World) (entry : Entry) (row : ℕ → List T) (slave : SlaveRecord) → ShowsChanges world entry row → slave_at world (address_of_slave slave) ≡ Some slave
    → state_and_holder (slave_after world entry.event slave) ≡ state_and_holder slave → row (address_of_slave slave) ≡ []
kept_by world entry row slave shows here same =
    shows (address_of_slave slave) (
    ap (option_map state_and_holder) (at_after world entry.event (address_of_slave slave) ∙ ap (option_map (slave_after world entry.event)) here)
    ∙ ap Some same
    ∙ sym (ap (option_map state_and_holder) here))

abbrev AreAllRows : {T : Type 0} → World → (ℕ → List T) → List ℕ → Type 0
AreAllRows world row addresses = flat_map row addresses ≡ flat_map row (map address_of_slave world.slaves)

none_touched : {T : Type 0} (world : World) (entry : Entry) (row : ℕ → List T) → ShowsChanges world entry row → IsOfALine world → Follows world entry → touched entry.event entry.outcome ≡ []
    → AreAllRows world row (touched entry.event entry.outcome)
none_touched world entry row shows line follows none =
    ap (flat_map row) none
    ∙ sym (none_rows row world.slaves (every (λ slave. row (address_of_slave slave) ≡ []) world.slaves
    (λ slave. no_row_there world entry row (address_of_slave slave) shows line follows (ap (list_any (λ other. eqb other (address_of_slave slave))) none))))

one_apart : (one address : ℕ) → eqb address one ≡ false → list_any (λ other. eqb other address) (one ∷ []) ≡ false
one_apart one address apart = let other = ne_eqb one address (λ same. both_ways (eqb address one) apart (eq-eqb address one (sym same))) in rw other refl

one_touched_alone : {T : Type 0} (world : World) (entry : Entry) (row : ℕ → List T) (address : ℕ) → ShowsChanges world entry row → IsOfALine world → Follows world entry
    → touched entry.event entry.outcome ≡ address ∷ [] → AreAllRows world row (touched entry.event entry.outcome)
one_touched_alone world entry row address shows line follows one =
    ap (flat_map row) one
    ∙ flat_map-cons row address []
    ∙ append-nil (row address)
    ∙ sym (one_row row address world.slaves line.ascend (nobody_there world entry row address shows)
    (every (λ slave. eqb (address_of_slave slave) address ≡ false → row (address_of_slave slave) ≡ []) world.slaves
    (λ slave apart. no_row_there world entry row (address_of_slave slave) shows line follows
    (ap (list_any (λ other. eqb other (address_of_slave slave))) one ∙ one_apart address (address_of_slave slave) apart))))

some_touched : {T : Type 0} (world : World) (entry : Entry) (row : ℕ → List T) (holds : SlaveRecord → Bool) → ShowsChanges world entry row → IsOfALine world
    → touched entry.event entry.outcome ≡ addresses_where holds world
    → ((slave : SlaveRecord) → is_in_wait_prm slave.state ≡ is_none slave.holder → holds slave ≡ false → state_and_holder (slave_after world entry.event slave) ≡ state_and_holder slave)
    → AreAllRows world row (touched entry.event entry.outcome)
some_touched world entry row holds shows line some keeps =
    ap (flat_map row) some
    ∙ kept_rows row holds world.slaves (each_is (λ slave. slave_among world.slaves (address_of_slave slave) ≡ Some slave)
    (λ slave. holds slave ≡ false → row (address_of_slave slave) ≡ []) world.slaves
    (λ slave here stays. kept_by world entry row slave shows here
    (keeps slave (found_is (λ s. is_in_wait_prm s.state ≡ is_none s.holder) world.slaves (address_of_slave slave) slave line.waits_unheld here) stays))
    (found_self world.slaves line.ascend))

receiver_rows : {T : Type 0} (world : World) (entry : Entry) (row : ℕ → List T) (receiver : Receiver) → ShowsChanges world entry row → IsOfALine world → Follows world entry
    → touched entry.event entry.outcome ≡ asked_addresses receiver → AreAllRows world row (touched entry.event entry.outcome)
receiver_rows world entry row (Slave address) shows line follows is = one_touched_alone world entry row address shows line follows is
receiver_rows world entry row AllSlaves shows line follows is = none_touched world entry row shows line follows is
receiver_rows world entry row (Station address) shows line follows is = none_touched world entry row shows line follows is
receiver_rows world entry row Nobody shows line follows is = none_touched world entry row shows line follows is

after_tick : (world : World) (time : ℕ) (slave : SlaveRecord) → expires time slave ≡ false → state_and_holder (slave_after world (Operator (Tick time)) slave) ≡ state_and_holder slave
unfolding slave_after
after_tick world time slave stays = tick_state_and_holder slave time stays

after_halt : (world : World) (slave : SlaveRecord) → is_in_wait_prm slave.state ≡ is_none slave.holder → is_held slave ≡ false
    → state_and_holder (slave_after world (Operator Halt) slave) ≡ state_and_holder slave
unfolding slave_after
after_halt world slave waiting free = halt_state_and_holder slave waiting free

op_rows : {T : Type 0} (world : World) (entry : Entry) (row : ℕ → List T) (op : Op) → ShowsChanges world entry row → IsOfALine world → Follows world entry → entry.event ≡ Operator op
    → entry.outcome ≡ outcome_of world (Operator op) → AreAllRows world row (touched entry.event entry.outcome)
unfolding outcome_of
op_rows world entry row (Input address octets) shows line follows is reported = none_touched world entry row shows line follows (rw (is, reported) refl)
op_rows world entry row (Diag address ext stat overflow octets) shows line follows is reported = none_touched world entry row shows line follows (rw (is, reported) refl)
op_rows world entry row (Busy address point on) shows line follows is reported = none_touched world entry row shows line follows (rw (is, reported) refl)
op_rows world entry row (Tick time) shows line follows is reported =
    some_touched world entry row (expires time) shows line (rw (is, reported) refl)
    (λ slave waiting stays. ap (λ (e : Event). state_and_holder (slave_after world e slave)) is ∙ after_tick world time slave stays)
op_rows world entry row Halt shows line follows is reported =
    some_touched world entry row is_held shows line (rw (is, reported) refl)
    (λ slave waiting free. ap (λ (e : Event). state_and_holder (slave_after world e slave)) is ∙ after_halt world slave waiting free)

event_rows : {T : Type 0} (world : World) (entry : Entry) (row : ℕ → List T) (event : Event) → entry.event ≡ event → ShowsChanges world entry row → IsOfALine world → Follows world entry
    → AreAllRows world row (touched entry.event entry.outcome)
event_rows world entry row (Request master octets) is shows line follows =
    receiver_rows world entry row (receiver_of_frame (frame_of octets.items)) shows line follows (ap (λ (e : Event). touched e entry.outcome) is)
event_rows world entry row (Operator op) is shows line follows = op_rows world entry row op shows line follows is (follows.outcome ∙ ap (outcome_of world) is)

pub all_rows : Ways → LinesHave → (line : Description) (before : List Entry) (entry : Entry) → IsLegal (start_of line) (before ++ entry ∷ [])
    → change_rows (after_entries (start_of line) before) (after_entries (start_of line) (before ++ entry ∷ [])) entry.event entry.outcome
    ≡ flat_map (change_of (after_entries (start_of line) before) (after_entries (start_of line) (before ++ entry ∷ []))) (map address_of_slave (after_entries (start_of line) before).slaves)
all_rows ways have line before entry legal =
    let last = last_of (start_of line) before entry legal in
    let world = after_entries (start_of line) before in
    subst (λ (w : World). change_rows world w entry.event entry.outcome ≡ flat_map (change_of world w) (map address_of_slave world.slaves)) (sym last.left)
    (event_rows world entry (change_of world (after_entry world entry)) entry.event refl (stays_without_row world entry) (journal_line ways have line before last.legal) last.follows)

pub all_ended : Ways → LinesHave → (line : Description) (before : List Entry) (entry : Entry) → IsLegal (start_of line) (before ++ entry ∷ [])
    → holds_ended (after_entries (start_of line) before) (after_entries (start_of line) (before ++ entry ∷ [])) entry.place entry.event entry.outcome
    ≡ flat_map (ended_at (after_entries (start_of line) before) (after_entries (start_of line) (before ++ entry ∷ [])) entry.place entry.event) (map address_of_slave (after_entries (start_of line) before).slaves)
all_ended ways have line before entry legal =
    let last = last_of (start_of line) before entry legal in
    let world = after_entries (start_of line) before in
    subst (λ (w : World). holds_ended world w entry.place entry.event entry.outcome ≡ flat_map (ended_at world w entry.place entry.event) (map address_of_slave world.slaves)) (sym last.left)
    (event_rows world entry (ended_at world (after_entry world entry) entry.place entry.event) entry.event refl (stays_without_end world entry) (journal_line ways have line before last.legal) last.follows)
