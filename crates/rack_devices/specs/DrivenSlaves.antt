-- detail
-- The slaves that devices drive (own).
use Rattle.std.specs.Prelude.{ℕ, if◌then◌else◌, List, Option, Some, None, option_and_then}
use Rattle.std.specs.List.{filter_map, range_with_len}
use Rattle.dp_telegram.specs.Access.{global_address}
use Rattle.dp_slave.specs.declared.description.SlaveSpec.{SlaveSpec}
use Rattle.dp_slave.specs.declared.view.SlaveView.{SlaveView}
use Rattle.dp_line.specs.declared.event.Op.{Op}
use Rattle.dp_line.specs.declared.event.Op.TheVariants.{Input}
use Rattle.dp_line.specs.World.{described_at}
use Rattle.rack_devices.specs.declared.driven_slave.DrivenSlave.{DrivenSlave}
use Rattle.rack_devices.specs.Devices.{is_still, next_inputs}

-- the slave of a description; None if its device is still
abbrev pub driven_by : ℕ → SlaveSpec → Option DrivenSlave
driven_by address slave = if is_still slave.device then None else Some (record { address = address; device = slave.device })

-- the slave that is described for the address; None if there is none, or if its device is still
abbrev pub driven_at : List SlaveSpec → ℕ → Option DrivenSlave
driven_at slaves address = option_and_then (driven_by address) (described_at slaves address)

-- the slaves that devices drive, in ascending order of address: for each address the slave that has it, with or without inputs
unfoldable pub driven_slaves : List SlaveSpec → List DrivenSlave
driven_slaves slaves = filter_map (driven_at slaves) (range_with_len 0 global_address)

-- the next event of the device, for a slave in this state
abbrev pub next_input : DrivenSlave → SlaveView → Op
next_input driven slave = Input driven.address (record { items = next_inputs driven.device slave.inputs.items slave.outputs.items })
