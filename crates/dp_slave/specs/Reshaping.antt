-- helper
-- What another shape changes of a slave. No public clause cites this module.
use Rattle.std.specs.Prelude.{ℕ, false}
use Rattle.dp_slave.specs.SlaveRecord.{SlaveRecord, cut_or_filled, inputs_of, outputs_of, zeros}

-- the shape of this number is in force: inputs and the frozen inputs are cut or filled with zeros, outputs and latest data are zeros, both modes end,
-- and the slave isn't cleared (own)
abbrev pub reshaped : SlaveRecord → ℕ → SlaveRecord
reshaped slave number = record slave {
  shape = number;
  inputs = cut_or_filled (inputs_of slave.description number) slave.inputs;
  frozen_inputs = cut_or_filled (inputs_of slave.description number) slave.frozen_inputs;
  outputs = zeros (outputs_of slave.description number);
  latest = zeros (outputs_of slave.description number);
  sync_mode = false;
  freeze_mode = false;
  cleared = false;
}
