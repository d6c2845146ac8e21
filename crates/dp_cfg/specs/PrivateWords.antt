-- helper
-- Definitions for private functions and for the type's invariant. No public clause cites this module.
use Rattle.std.specs.Prelude.{◌≡◌, ℕ, List, Ok}
use Rattle.dp_cfg.specs.Identifiers.{Identifier, input_sum, output_sum}
use Rattle.dp_cfg.specs.Reading.{reading_of, input_octets, output_octets}

-- inputs and outputs of an identifier, and the octets after it
abbrev pub lengths_and_rest : Identifier × List ℕ → ℕ × ℕ × List ℕ
lengths_and_rest first = (first.0.inputs, first.0.outputs, first.1)

-- inputs and outputs of the identifiers together
abbrev pub sums_of : List Identifier → ℕ × ℕ
sums_of identifiers = (input_sum identifiers, output_sum identifiers)

-- octets that are a configuration, with its inputs and outputs
pub record IsConfiguration (octets : List ℕ) (inputs outputs : ℕ) : Type 0 where
  pub is_read : reading_of octets ≡ Ok octets
  pub inputs_are : inputs ≡ input_octets octets
  pub outputs_are : outputs ≡ output_octets octets
