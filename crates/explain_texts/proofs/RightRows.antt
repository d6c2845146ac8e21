-- A right row takes effect as a step of the line, and the check goes on after it.
use Rattle.std.proofs.Common.{◌≡◌, ℕ, ◌+◌, ◌==◌, Bool, true, false, not, ◌&&◌, ◌||◌, cond, List, ◌∷◌, Option, Some, None, Result, Err, refl, sym, ap, subst, ◌∙◌}
use Rattle.std.specs.Prelude.{is_none}
use Rattle.std.proofs.lemmas.Bool.{false≢true}
use Rattle.dp_line.specs.declared.event.Event.{Event}
use Rattle.dp_line.specs.declared.event.Event.TheVariants.{Operator}
use Rattle.dp_line.specs.declared.event.Op.TheVariants.{Halt}
use Rattle.dp_line.specs.declared.fault.OperatorFault.{OperatorFault}
use Rattle.dp_line.specs.World.{World, is_last_place}
use Rattle.dp_line.specs.Events.{is_halt, operator_fault}
use Rattle.dp_line.specs.Effects.{effect, halted_world, held_addresses}
use Rattle.dp_line.specs.Steps.{step, step_by_fit, reported_halted, unrecorded}
use Rattle.dp_audit.specs.declared.fault.AuditFault.{AuditFault}
use Rattle.dp_audit.specs.Check.{Judged, LineParts, Placed, bad, not_the_policy, right, checked_lines, going_on, is_recorded_at, judged_line, judged_parts, judged_placed, line_parts, placed_of, reports_policy}
use Rattle.dp_audit.proofs.Taken.{is_the_halt}
use Rattle.explain_texts.specs.Followed.{judged_fault}

-- ---- the event of a right row takes effect as a step of the line

abbrev pub IsStep : World → Event → Type 0
IsStep world event = (step world event).world ≡ (effect world event).world

by_place : (last : Bool) (world : World) (event : Event) → (last ≡ true → event ≡ Operator Halt)
    → (cond last (record { world = halted_world world; answer = unrecorded (reported_halted event) (Some (held_addresses world)) }) (effect world event)).world ≡ (effect world event).world
by_place true world event halts = ap (λ (e : Event). (effect world e).world) (sym (halts refl))
by_place false world event halts = refl

step_is : (world : World) (event : Event) → world.halted ≡ false → operator_fault world event ≡ None → (is_last_place world ≡ true → event ≡ Operator Halt) → IsStep world event
unfolding step
step_is world event running fits halts =
    ap (λ (halted : Bool). (cond halted (record { world = world; answer = unrecorded (reported_halted event) None }) (step_by_fit world event (operator_fault world event))).world) running
    ∙ ap (λ (fit : Option OperatorFault). (step_by_fit world event fit).world) fits
    ∙ by_place (is_last_place world) world event halts

-- what it takes to be recorded
record IsFit (halted : Bool) (fit : Option OperatorFault) (last halt : Bool) : Type 0 where
  running : halted ≡ false
  fits : fit ≡ None
  halts : last ≡ true → halt ≡ true

fit_is : (here halted : Bool) (fit : Option OperatorFault) (last halt reported : Bool) → ((here && not halted && is_none fit && (not last || halt)) && reported) ≡ true → IsFit halted fit last halt
fit_is false halted fit last halt reported e = absurd (false≢true e)
fit_is true true fit last halt reported e = absurd (false≢true e)
fit_is true false (Some fault) last halt reported e = absurd (false≢true e)
fit_is true false None true false reported e = absurd (false≢true e)
fit_is true false None true true reported e = record { running = refl; fits = refl; halts = λ last. refl }
fit_is true false None false halt reported e = record { running = refl; fits = refl; halts = λ last. absurd (false≢true last) }

recorded_is_step : (world : World) (parts : LineParts) (placed : Placed) → (is_recorded_at world placed.place placed.event && reports_policy world placed.event parts.facts parts.outcome) ≡ true → IsStep world placed.event
recorded_is_step world parts placed e =
    let fit = fit_is (placed.place == world.count + 1) world.halted (operator_fault world placed.event) (is_last_place world) (is_halt placed.event) (reports_policy world placed.event parts.facts parts.outcome) e in
    step_is world placed.event fit.running fit.fits (λ last. is_the_halt placed.event (fit.halts last))

by_test : (test : Bool) (world : World) (found event : Event) → cond test (right found) not_the_policy ≡ right event → (test ≡ true → IsStep world found) → IsStep world event
by_test true world found event e is = let same : found ≡ event = cc in subst (IsStep world) same (is refl)
by_test false world found event e is = absurd cc

by_placed : (world : World) (parts : LineParts) (placed : Option Placed) (event : Event) → judged_placed world parts placed ≡ right event → IsStep world event
by_placed world parts None event e = absurd cc
by_placed world parts (Some placed) event e =
    by_test (is_recorded_at world placed.place placed.event && reports_policy world placed.event parts.facts parts.outcome) world placed.event event e (recorded_is_step world parts placed)

by_parts : (world : World) (parts : Option LineParts) (event : Event) → judged_parts world parts ≡ right event → IsStep world event
by_parts world None event e = absurd cc
by_parts world (Some parts) event e = by_placed world parts (placed_of parts.placed) event e

pub right_is_step : (world : World) (row : List ℕ) (event : Event) → judged_line world row ≡ right event → IsStep world event
right_is_step world row event e = by_parts world (line_parts row) event e

one_place : (world : World) (event : Event) → (effect world event).world.count ≡ world.count + 1
unfolding effect
one_place world event = refl

pub step_counts : (world : World) (event : Event) → IsStep world event → (step world event).world.count ≡ world.count + 1
step_counts world event is = ap (λ (w : World). w.count) is ∙ one_place world event

-- ---- the check of the lines

-- after a right row
pub checked_on : (world : World) (row next : List ℕ) (lines : List (List ℕ)) (event : Event) → judged_line world row ≡ right event
    → checked_lines world world.count (row ∷ next ∷ lines) ≡ checked_lines (step world event).world (step world event).world.count (next ∷ lines)
checked_on world row next lines event judged =
    let is = right_is_step world row event judged in
    ap (λ (j : Judged). going_on j world.count (λ event. checked_lines (effect world event).world (world.count + 1) (next ∷ lines))) judged
    ∙ ap (λ (n : ℕ). checked_lines (effect world event).world n (next ∷ lines)) (sym (step_counts world event is))
    ∙ ap (λ (w : World). checked_lines w (step world event).world.count (next ∷ lines)) (sym is)

abbrev pub fails : AuditFault → Result ℕ AuditFault
fails fault = Err fault

-- at a wrong row
stops_by : (world : World) (lines : List (List ℕ)) (fault : AuditFault) (judged : Judged) → judged_fault world.count judged ≡ Some fault
    → going_on judged world.count (λ event. checked_lines (effect world event).world (world.count + 1) lines) ≡ fails fault
stops_by world lines fault bad e = cc
stops_by world lines fault not_the_policy e = cc
stops_by world lines fault (right event) e = absurd cc

pub checked_stops : (world : World) (row next : List ℕ) (lines : List (List ℕ)) (fault : AuditFault) → judged_fault world.count (judged_line world row) ≡ Some fault
    → checked_lines world world.count (row ∷ next ∷ lines) ≡ fails fault
checked_stops world row next lines fault e = stops_by world (next ∷ lines) fault (judged_line world row) e
