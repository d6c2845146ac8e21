-- helper
-- How many octets a slave's data have. No public clause cites this module.
use Rattle.std.specs.Prelude.{◌≡◌, ℕ, List, length}
use Rattle.dp_slave.specs.declared.description.SlaveSpec.{SlaveSpec}
use Rattle.dp_slave.specs.SlaveRecord.{inputs_of, outputs_of}

-- inputs and the frozen inputs, outputs and latest data are as long as the configuration of the shape says
pub record HaveLengths (description : SlaveSpec) (shape : ℕ) (inputs frozen_inputs outputs latest : List ℕ) : Type 0 where
  pub inputs_are : length inputs ≡ inputs_of description shape
  pub frozen_inputs_is : length frozen_inputs ≡ inputs_of description shape
  pub outputs_are : length outputs ≡ outputs_of description shape
  pub latest_are : length latest ≡ outputs_of description shape
