-- Why an event gets no place.
use Rattle.std.specs.Prelude.{IfNone}
use Rattle.std.specs.List.{AllByRecursion}
use Rattle.std.proofs.Common.{◌≡◌, ℕ, ◌+◌, List, [], ◌∷◌, sym, ap, subst, ◌∙◌, Option, Some, None}
use Rattle.std.proofs.lemmas.Option.{none-some}
use Rattle.dp_line.specs.Effects.{Stepped, effect}
use Rattle.dp_line.specs.Steps.{step}
use Rattle.dp_line.specs.declared.event.Event.{Event}
use Rattle.dp_line.specs.declared.event.Event.TheVariants.{Operator}
use Rattle.dp_line.specs.declared.event.Op.TheVariants.{Tick}
use Rattle.dp_line.specs.declared.event.Outcome.{Outcome}
use Rattle.dp_line.specs.declared.event.Outcome.TheVariants.{Refused}
use Rattle.dp_line.specs.declared.event.Step.{Step}
use Rattle.dp_line.specs.declared.fault.OperatorFault.TheVariants.{Halted}
use Rattle.dp_audit.specs.EventWays.{Way, meets_halt, is_refused, brings_halt, is_recorded}
use Rattle.dp_audit.proofs.Histories.{way}
use Rattle.dp_shared.specs.Content.{Content, IsHistory, world_now}
use Rattle.dp_shared.specs.LineLock.{FitsPass}
use Rattle.dp_shared.specs.Causes.{HasCause, does_not_fit, line_is_halted}
use Rattle.dp_shared.specs.declared.line_view.PassView.{PassView}

cause_of : (content : Content) (pass : PassView) (event : Event) → IsHistory content → FitsPass content pass → Way (world_now content) event
    → (step (world_now content) event).answer.place ≡ None → HasCause pass event (step (world_now content) event).answer.outcome
unfolding effect
cause_of content pass event history fits (meets_halt halted is none) unplaced = line_is_halted (ap (λ (s : Stepped). s.answer.outcome) is)
cause_of content pass event history fits (is_refused fault running faulty is none) unplaced =
    does_not_fit content fault history fits running faulty (ap (λ (s : Stepped). s.answer.outcome) is)
cause_of content pass event history fits (brings_halt last is one follows) unplaced = line_is_halted (ap (λ (s : Stepped). s.answer.outcome) is)
cause_of content pass event history fits (is_recorded room is one follows) unplaced =
    absurd (none-some ((world_now content).count + 1) (sym unplaced ∙ ap (λ (s : Stepped). s.answer.place) is))

pub cause_by : (content : Content) (pass : PassView) (passes : List PassView) → passes ≡ pass ∷ [] → AllByRecursion (FitsPass content) passes → IsHistory content
    → (event : Event) (answer : Step) (place : Option ℕ) → answer ≡ (step (world_now content) event).answer → answer.place ≡ place
    → IfNone place (HasCause pass event answer.outcome)
cause_by content pass passes one fits history event answer (Some place) is at = tt
cause_by content pass passes one fits history event answer None is at =
    subst (λ (a : Step). HasCause pass event a.outcome) (sym is)
    (cause_of content pass event history (subst (AllByRecursion (FitsPass content)) one fits).0 (way (world_now content) event) (sym (ap (λ (a : Step). a.place) is) ∙ at))

-- a tick fits every line
pub tick_halted : (pass : PassView) (units : ℕ) (outcome : Outcome) → HasCause pass (Operator (Tick units)) outcome → outcome ≡ Refused Halted
tick_halted pass units outcome (line_is_halted is) = is
tick_halted pass units outcome (does_not_fit content fault history fits running faulty is) = absurd (none-some fault faulty)
