-- detail
-- The facts of the result of an event of the operator (own).
use Rattle.std.specs.Prelude.{ℕ, if◌then◌else◌, Option, Some, None}
use Rattle.std.specs.Option.{option_and_then}
use Rattle.dp_slave.specs.declared.view.SlaveView.{SlaveView}
use Rattle.dp_line.specs.declared.event.Event.TheVariants.{Operator}
use Rattle.dp_line.specs.declared.event.Op.{Op}
use Rattle.dp_line.specs.declared.event.Outcome.{Outcome}
use Rattle.dp_line.specs.declared.event.Outcome.TheVariants.{Released, Done, Refused}
use Rattle.dp_line.specs.World.{World, is_last_place}
use Rattle.dp_line.specs.Events.{is_halt}
use Rattle.explain_events.specs.declared.op_results.Expired.{Expired}
use Rattle.explain_events.specs.declared.op_results.OpResult.{OpResult}
use Rattle.explain_events.specs.declared.op_results.OpResult.TheVariants as results
use Rattle.explain_events.specs.Shown.{shown_at}

-- an event that released slaves: the halt, also one that was recorded instead of another event, or a tick
abbrev pub release_result : World → Op → OpResult
release_result world op = if is_halt (Operator op) then results.Halted (is_last_place world) else results.Ticked

-- an outcome that only a request has is no result here
abbrev pub op_result : World → Op → Outcome → Option OpResult
op_result world op (Released addresses) = Some (release_result world op)
op_result world op Done = Some results.Done
op_result world op (Refused fault) = Some (results.Refused fault)
op_result world op outcome = None

-- the full time of the watchdog by the parameters of a slave, in units of 10 ms
abbrev pub full_time_of : Option SlaveView → Option ℕ
full_time_of slave = option_and_then (λ s. option_and_then (λ prm. prm.watchdog) s.prm) slave

-- a slave that a tick released: its holder before, which was silent for the whole time of the watchdog
abbrev pub expired : ℕ → Option SlaveView → Expired
expired address slave = record {
  address = address;
  holder = option_and_then (λ s. s.holder) slave;
  watchdog = full_time_of slave;
}

abbrev pub expired_at : World → ℕ → Expired
expired_at world address = expired address (shown_at world address)
