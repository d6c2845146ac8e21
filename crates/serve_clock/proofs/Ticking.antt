-- The ticks of a pass are those of the moments to which the time was advanced.
use Rattle.std.proofs.Common.{◌≡◌, ℕ, suc, zero, ◌+◌, ◌<◌, ◌≤◌, ◌==◌, Bool, true, false, cond, List, [], ◌∷◌, ◌++◌, length, map, take, All, Option, Some, None, refl, sym, ap, subst, ◌∙◌, append-nil, append_assoc, arith}
use Rattle.std.specs.Prelude.{IfNone, IfSome, ◌||◌}
use Rattle.std.proofs.lemmas.Bool.{eq-eqb, eqb-true, false≢true}
use Rattle.std.proofs.lemmas.Bool.Decides.{nat_tests}
use Rattle.std.proofs.lemmas.List.{length-map, length-take, take-append-le}
use Rattle.std.proofs.Math.Seq.{take-length, take-nil}
use Rattle.dp_line.specs.declared.event.Event.{Event}
use Rattle.dp_line.specs.declared.event.Event.TheVariants.{Operator}
use Rattle.dp_line.specs.declared.event.Op.TheVariants as ops
use Rattle.dp_line.specs.declared.event.Outcome.{Outcome}
use Rattle.dp_line.specs.declared.event.Outcome.TheVariants.{Refused}
use Rattle.dp_line.specs.declared.fault.OperatorFault.TheVariants.{Halted}
use Rattle.dp_audit.specs.declared.entry.Entry.{Entry}
use Rattle.dp_audit.specs.declared.entry.Receipt.{Receipt}
use Rattle.dp_shared.specs.Causes.{HasCause}
use Rattle.dp_shared.specs.Content.{Content}
use Rattle.dp_shared.specs.LineLock.{FitsPass, receipt_for, says_halted}
use Rattle.dp_shared.specs.Numbers.{under}
use Rattle.dp_shared.specs.Passes.{with_receipt}
use Rattle.dp_shared.specs.declared.line_view.PassView.{PassView}
use Rattle.serve_clock.specs.declared.line_time.Advance.{Advance}
use Rattle.serve_clock.specs.declared.line_time.LineTime.{LineTime}
use Rattle.serve_clock.specs.Moments.{advance_at, advances_at_each, cut_off_in_all, first_time, time_after, time_after_all, units_in_all, units_passed}
use Rattle.serve_clock.specs.Advances.{HasTicked, events_by, events_under, started, tick_of, ticks_of, units_in}
use Rattle.serve_clock.proofs.Advancing.{after_one_more, most_stays, none_lost, none_twice}

-- ---- one moment more

advances_more : (time : LineTime) (moments : List ℕ) (moment : ℕ)
    → advances_at_each time (moments ++ moment ∷ []) ≡ advances_at_each time moments ++ advance_at (time_after_all time moments) moment ∷ []
advances_more time [] moment = refl
advances_more time (first ∷ moments) moment = ap (λ (l : List Advance). advance_at time first ∷ l) (advances_more (time_after time first) moments moment)

ticks_more : (advances : List Advance) (advance : Advance) → ticks_of (advances ++ advance ∷ []) ≡ ticks_of advances ++ tick_of advance
ticks_more [] advance = append-nil (tick_of advance)
ticks_more (first ∷ advances) advance =
    ap (λ (l : List Event). tick_of first ++ l) (ticks_more advances advance) ∙ sym (append_assoc (tick_of first) (ticks_of advances) (tick_of advance))

-- the ticks after one moment more
ticks_then : (time : LineTime) (moments : List ℕ) (moment : ℕ) → time ≡ time_after_all (started time) moments
    → ticks_of (advances_at_each (started time) (moments ++ moment ∷ [])) ≡ ticks_of (advances_at_each (started time) moments) ++ tick_of (advance_at time moment)
ticks_then time moments moment is =
    ap ticks_of (advances_more (started time) moments moment)
    ∙ ticks_more (advances_at_each (started time) moments) (advance_at (time_after_all (started time) moments) moment)
    ∙ ap (λ (t : LineTime). ticks_of (advances_at_each (started time) moments) ++ tick_of (advance_at t moment)) (sym is)

time_then : (time : LineTime) (moments : List ℕ) (moment : ℕ) → time ≡ time_after_all (started time) moments
    → time_after time moment ≡ time_after_all (started (time_after time moment)) (moments ++ moment ∷ [])
time_then time moments moment is =
    ap (λ (t : LineTime). time_after t moment) is ∙ sym (after_one_more (started time) moments moment)

tick_by : (advance : Advance) (none : Bool) → (advance.units == 0) ≡ none → cond none [] (Operator (ops.Tick advance.units) ∷ []) ≡ tick_of advance
tick_by advance none is = ap (λ (b : Bool). cond b [] (Operator (ops.Tick advance.units) ∷ [])) (sym is)

no_tick : (advance : Advance) → advance.units ≡ 0 → tick_of advance ≡ []
no_tick advance none = sym (tick_by advance true (eq-eqb advance.units 0 none))

is_above : (n : ℕ) → 0 < n → (n == 0) ≡ false
is_above n some = grind (arith, nat_tests)

one_tick : (advance : Advance) → 0 < advance.units → tick_of advance ≡ Operator (ops.Tick advance.units) ∷ []
one_tick advance some = sym (tick_by advance false (is_above advance.units some))

-- the same receipts are the first of more ticks
length_events : (receipts : List Receipt) → length (map (λ (r : Receipt). r.event) receipts) ≡ length receipts
length_events receipts = length-map receipts (λ (r : Receipt). r.event)

few : (receipts : List Receipt) (ticks : List Event) → map (λ (r : Receipt). r.event) receipts ≡ take (length receipts) ticks → length receipts ≤ length ticks
few receipts ticks first =
    let same = ap length first in
    omega (arith, same, length_events receipts, length-take (length receipts) ticks)

first_of_more : (receipts : List Receipt) (ticks more : List Event) → map (λ (r : Receipt). r.event) receipts ≡ take (length receipts) ticks
    → map (λ (r : Receipt). r.event) receipts ≡ take (length receipts) (ticks ++ more)
first_of_more receipts ticks more first = first ∙ sym (take-append-le (length receipts) ticks more (few receipts ticks first))

first_of_all : (receipts : List Receipt) (ticks : List Event) → map (λ (r : Receipt). r.event) receipts ≡ ticks
    → map (λ (r : Receipt). r.event) receipts ≡ take (length receipts) ticks
first_of_all receipts ticks all =
    sym (take-length (map (λ (r : Receipt). r.event) receipts)) ∙ ap (λ (n : ℕ). take n (map (λ (r : Receipt). r.event) receipts)) (length_events receipts)
    ∙ ap (λ (l : List Event). take (length receipts) l) all

-- what is true of a pass and the ticks of some moments
abbrev AreTicks : PassView → List Event → Type 0
AreTicks pass ticks = (events_by pass ≡ take (length pass.receipts) ticks) × (pass.saw_halt ≡ false → events_by pass ≡ ticks)

then : (time : LineTime) (moments : List ℕ) (moment : ℕ) (pass : PassView) (more : List Event) → time ≡ time_after_all (started time) moments
    → tick_of (advance_at time moment) ≡ more → AreTicks pass (ticks_of (advances_at_each (started time) moments) ++ more)
    → HasTicked (time_after time moment) (moments ++ moment ∷ []) pass
then time moments moment pass more is tick are =
    let ticks : ticks_of (advances_at_each (started time) moments) ++ more ≡ ticks_of (advances_at_each (started time) (moments ++ moment ∷ [])) =
    sym (ticks_then time moments moment is ∙ ap (λ (l : List Event). ticks_of (advances_at_each (started time) moments) ++ l) tick) in
    let them : AreTicks pass (ticks_of (advances_at_each (started time) (moments ++ moment ∷ []))) = subst (AreTicks pass) ticks are in record {
      time_is = time_then time moments moment is;
      first = them.0;
      all = them.1;
    }

-- at a moment without a tick
pub ticked_none : (time : LineTime) (moments : List ℕ) (moment : ℕ) (pass : PassView) → HasTicked time moments pass → (advance_at time moment).units ≡ 0
    → HasTicked (time_after time moment) (moments ++ moment ∷ []) pass
ticked_none time moments moment pass before none =
    then time moments moment pass [] before.time_is (no_tick (advance_at time moment) none)
    (subst (AreTicks pass) (sym (append-nil (ticks_of (advances_at_each (started time) moments)))) (before.first, before.all))

-- ---- a tick

events_more : (receipts : List Receipt) (receipt : Receipt) → map (λ (r : Receipt). r.event) (receipts ++ receipt ∷ []) ≡ map (λ (r : Receipt). r.event) receipts ++ receipt.event ∷ []
events_more [] receipt = refl
events_more (first ∷ receipts) receipt = ap (λ (l : List Event). first.event ∷ l) (events_more receipts receipt)

or_true : (b c : Bool) → c ≡ true → b || c ≡ true
or_true true c is = refl
or_true false c is = is

-- a tick with a place is the next receipt, and after one without a place the pass saw the halt
ticked_by : (before : PassView) (receipt : Receipt) (ticks : List Event) (place : Option ℕ) → AreTicks before ticks
    → IfSome place (λ _. before.saw_halt ≡ false) → IfNone place (receipt.outcome ≡ Refused Halted)
    → AreTicks (with_receipt before receipt place) (ticks ++ receipt.event ∷ [])
ticked_by before receipt ticks (Some place) are running refused =
    let all : events_by (with_receipt before receipt (Some place)) ≡ ticks ++ receipt.event ∷ [] =
    events_more before.receipts receipt ∙ ap (λ (l : List Event). l ++ receipt.event ∷ []) (are.1 running) in
    (first_of_all (before.receipts ++ receipt ∷ []) (ticks ++ receipt.event ∷ []) all, λ _. all)
ticked_by before receipt ticks None are running refused = (
  first_of_more before.receipts ticks (receipt.event ∷ []) are.0,
  λ on. absurd (false≢true (sym on ∙ or_true before.saw_halt (says_halted receipt.outcome) (ap says_halted refused))),
)

pub ticked_some : (time : LineTime) (moments : List ℕ) (moment : ℕ) (before after : PassView) (receipt : Receipt) (units : ℕ) → HasTicked time moments before
    → units ≡ (advance_at time moment).units → 0 < units → receipt.event ≡ Operator (ops.Tick units) → after ≡ with_receipt before receipt receipt.place
    → IfSome receipt.place (λ _. before.saw_halt ≡ false) → IfNone receipt.place (receipt.outcome ≡ Refused Halted)
    → HasTicked (time_after time moment) (moments ++ moment ∷ []) after
ticked_some time moments moment before after receipt units ticked passed some event is running refused =
    let ticks = ticks_of (advances_at_each (started time) moments) in
    let tick : tick_of (advance_at time moment) ≡ receipt.event ∷ [] =
    one_tick (advance_at time moment) (subst (λ (n : ℕ). 0 < n) passed some) ∙ ap (λ (n : ℕ). Operator (ops.Tick n) ∷ []) (sym passed) ∙ ap (λ (e : Event). e ∷ []) (sym event) in
    then time moments moment after (receipt.event ∷ []) ticked.time_is tick
    (subst (λ (p : PassView). AreTicks p (ticks ++ receipt.event ∷ [])) (sym is) (ticked_by before receipt ticks receipt.place (ticked.first, ticked.all) running refused))

-- what the law of lines says
abbrev OnlyHalted : Type 0
OnlyHalted = (pass : PassView) (units : ℕ) (outcome : Outcome) → HasCause pass (Operator (ops.Tick units)) outcome → outcome ≡ Refused Halted

pub refused_halted : OnlyHalted → (pass : PassView) (units : ℕ) (outcome : Outcome) (place : Option ℕ) → IfNone place (HasCause pass (Operator (ops.Tick units)) outcome)
    → IfNone place (outcome ≡ Refused Halted)
refused_halted only pass units outcome (Some place) cause = tt
refused_halted only pass units outcome None cause = only pass units outcome cause

-- ---- the ticks in the journal

events_for : (entries : List Entry) → map (λ (r : Receipt). r.event) (map receipt_for entries) ≡ map (λ (e : Entry). e.event) entries
events_for [] = refl
events_for (entry ∷ entries) = ap (λ (l : List Event). entry.event ∷ l) (events_for entries)

in_journal : (content : Content) (pass : PassView) → FitsPass content pass → events_by pass ≡ events_under content pass.number
in_journal content pass fits =
    ap (λ (l : List Receipt). map (λ (r : Receipt). r.event) l) fits.receipts ∙ events_for (under pass.number content.numbers content.book.entries)

pub all_ticks : (time : LineTime) (moments : List ℕ) (pass : PassView) (content : Content) → HasTicked time moments pass → FitsPass content pass → pass.saw_halt ≡ false
    → events_under content pass.number ≡ ticks_of (advances_at_each (started time) moments)
all_ticks time moments pass content ticked fits running = sym (in_journal content pass fits) ∙ ticked.all running

units_both : (events others : List Event) → units_in (events ++ others) ≡ units_in events + units_in others
units_both [] others = omega arith
units_both (event ∷ events) others = omega (arith, units_both events others)

units_of_first : (n : ℕ) (events : List Event) → units_in (take n events) ≤ units_in events
units_of_first n [] = omega (arith, ap units_in (take-nil n))
units_of_first zero (event ∷ events) = omega arith
units_of_first (suc n) (event ∷ events) = omega (arith, units_of_first n events)

tick_units : (advance : Advance) (none : Bool) → (advance.units == 0) ≡ none → units_in (cond none [] (Operator (ops.Tick advance.units) ∷ [])) ≡ advance.units
tick_units advance true is = sym (eqb-true advance.units 0 is)
tick_units advance false is = omega arith

ticks_units : (advances : List Advance) → units_in (ticks_of advances) ≡ units_in_all advances
ticks_units [] = refl
ticks_units (advance ∷ advances) =
    omega (arith, units_both (tick_of advance) (ticks_of advances), tick_units advance (advance.units == 0) refl, ticks_units advances)

same_start : (tick : ℕ) (moments : List ℕ) → started (time_after_all (first_time tick) moments) ≡ first_time tick
same_start tick moments = ap (λ (n : ℕ). record { most = n; counted = 0 }) (most_stays (first_time tick) moments)

units_of_ticks : (tick : ℕ) (moments : List ℕ) → units_in (ticks_of (advances_at_each (started (time_after_all (first_time tick) moments)) moments)) ≡ units_in_all (advances_at_each (first_time tick) moments)
units_of_ticks tick moments =
    ap (λ (t : LineTime). units_in (ticks_of (advances_at_each t moments))) (same_start tick moments) ∙ ticks_units (advances_at_each (first_time tick) moments)

pub all_units : (tick : ℕ) (moments : List ℕ) (moment : ℕ) (pass : PassView) (content : Content) → All (λ earlier. earlier ≤ moment) moments
    → HasTicked (time_after_all (first_time tick) (moments ++ moment ∷ [])) (moments ++ moment ∷ []) pass → FitsPass content pass → pass.saw_halt ≡ false
    → units_in (events_under content pass.number) + cut_off_in_all (advances_at_each (first_time tick) (moments ++ moment ∷ [])) ≡ units_passed moment
all_units tick moments moment pass content all ticked fits running =
    let events = ap units_in (all_ticks (time_after_all (first_time tick) (moments ++ moment ∷ [])) (moments ++ moment ∷ []) pass content ticked fits running) in
    omega (arith, events, units_of_ticks tick (moments ++ moment ∷ []), none_lost tick moments moment all)

pub most_units : (tick : ℕ) (moments : List ℕ) (latest : ℕ) (pass : PassView) (content : Content) → All (λ moment. moment ≤ latest) moments
    → HasTicked (time_after_all (first_time tick) moments) moments pass → FitsPass content pass
    → units_in (events_under content pass.number) + cut_off_in_all (advances_at_each (first_time tick) moments) ≤ units_passed latest
most_units tick moments latest pass content all ticked fits =
    let own = ap units_in (in_journal content pass fits) in
    let ticks = ticks_of (advances_at_each (started (time_after_all (first_time tick) moments)) moments) in
    let first = ap units_in ticked.first in
    omega (arith, own, first, units_of_first (length pass.receipts) ticks, units_of_ticks tick moments, none_twice tick moments latest all)
