-- promise
-- Why an event of a pass gets no place (own).
use Rattle.std.specs.Prelude.{◌≡◌, false, Some}
use Rattle.dp_line.specs.declared.event.Event.{Event}
use Rattle.dp_line.specs.declared.event.Outcome.{Outcome}
use Rattle.dp_line.specs.declared.event.Outcome.TheVariants.{Refused}
use Rattle.dp_line.specs.declared.fault.OperatorFault.{OperatorFault}
use Rattle.dp_line.specs.Events.{operator_fault}
use Rattle.dp_line.specs.Steps.{reported_halted}
use Rattle.dp_shared.specs.Content.{Content, IsHistory, world_now}
use Rattle.dp_shared.specs.LineLock.{FitsPass}
use Rattle.dp_shared.specs.declared.line_view.PassView.{PassView}

-- the line is halted, or an event of the operator does not fit: it has this fault after a legal journal that has all receipts of the pass, on a
-- line that is not halted
pub data HasCause (pass : PassView) (event : Event) (outcome : Outcome) : Type 0 where
  line_is_halted : outcome ≡ reported_halted event → HasCause pass event outcome
  does_not_fit : (content : Content) (fault : OperatorFault) → IsHistory content → FitsPass content pass → (world_now content).halted ≡ false
      → operator_fault (world_now content) event ≡ Some fault → outcome ≡ Refused fault
      → HasCause pass event outcome
