-- detail
-- The state and the holder of the slave at an address (own).
use Rattle.std.specs.Prelude.{ℕ, Option, option_map}
use Rattle.dp_sap.specs.declared.state.State.{State}
use Rattle.dp_line.specs.World.{World, slave_at}
use Rattle.dp_line.specs.Effects.{state_and_holder}

-- None if no slave has the address
abbrev pub state_and_holder_at : World → ℕ → Option (State × Option ℕ)
state_and_holder_at world address = option_map state_and_holder (slave_at world address)
