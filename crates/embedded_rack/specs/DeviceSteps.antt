-- detail
-- One step of the devices of a line (own).
use Rattle.std.specs.Prelude.{ℕ, ◌+◌, if◌then◌else◌, List, [], ◌∷◌, Option, Some, None, option_map, is_some}
use Rattle.dp_slave.specs.declared.view.SlaveView.{SlaveView}
use Rattle.dp_slave.specs.View.{view_of}
use Rattle.dp_line.specs.declared.event.Event.{Event}
use Rattle.dp_line.specs.declared.event.Event.TheVariants.{Operator}
use Rattle.dp_line.specs.World.{slave_at}
use Rattle.dp_line.specs.Steps.{step}
use Rattle.dp_audit.specs.Journal.{Journal, taken}
use Rattle.rack_devices.specs.declared.driven_slave.DrivenSlave.{DrivenSlave}
use Rattle.rack_devices.specs.DrivenSlaves.{next_input}

-- the result of devices: the journal, and how many of their Inputs were recorded
pub record Fed : Type 0 where
  pub journal : Journal
  pub recorded : ℕ

-- an event counts if it has a place. A refused one has none, nor has one that reaches the last place, because the halt is recorded instead
abbrev pub fed_by : Journal → Event → Fed
fed_by journal event = record {
  journal = taken journal event;
  recorded = if is_some (step journal.state.world event).answer.place then 1 else 0;
}

-- the device updates the inputs of a slave in this state
abbrev pub fed_as_seen : Journal → DrivenSlave → Option SlaveView → Fed
fed_as_seen journal driven None = record { journal = journal; recorded = 0 }
fed_as_seen journal driven (Some slave) = fed_by journal (Operator (next_input driven slave))

-- the device of one slave updates its inputs, by its inputs and outputs at that moment
abbrev pub fed_once : Journal → DrivenSlave → Fed
fed_once journal driven = fed_as_seen journal driven (option_map view_of (slave_at journal.state.world driven.address))

-- one device after another
abbrev pub fed_each : Journal → List DrivenSlave → Fed
fed_each journal [] = record { journal = journal; recorded = 0 }
fed_each journal (driven ∷ others) =
    let first = fed_once journal driven in
    let rest = fed_each first.journal others in
    record { journal = rest.journal; recorded = first.recorded + rest.recorded }
