-- helper
-- Examples of the next inputs that devices set.
use Rattle.std.specs.Prelude.{◌≡◌, [], ◌∷◌, refl}
use Rattle.dp_slave.specs.declared.description.Device.TheVariants.{Still, Counter, Mirror}
use Rattle.rack_devices.specs.Devices.{next_inputs}

pub still : next_inputs Still (0xAA ∷ 0x55 ∷ []) (0x12 ∷ []) ≡ 0xAA ∷ 0x55 ∷ []
still = refl

pub a_count : next_inputs Counter (0x00 ∷ 0x00 ∷ []) [] ≡ 0x00 ∷ 0x01 ∷ []
a_count = refl

pub a_carry : next_inputs Counter (0x00 ∷ 0xFF ∷ []) [] ≡ 0x01 ∷ 0x00 ∷ []
a_carry = refl

pub all_ones : next_inputs Counter (0xFF ∷ 0xFF ∷ []) [] ≡ 0x00 ∷ 0x00 ∷ []
all_ones = refl

pub a_counter_without_inputs : next_inputs Counter [] (0x12 ∷ []) ≡ []
a_counter_without_inputs = refl

pub a_mirror : next_inputs Mirror (0xAA ∷ 0x55 ∷ []) (0x12 ∷ 0x34 ∷ []) ≡ 0x12 ∷ 0x34 ∷ []
a_mirror = refl

pub filled : next_inputs Mirror (0xAA ∷ 0x55 ∷ []) (0x12 ∷ []) ≡ 0x12 ∷ 0x00 ∷ []
filled = refl

pub cut : next_inputs Mirror (0xAA ∷ []) (0x12 ∷ 0x34 ∷ []) ≡ 0x12 ∷ []
cut = refl

pub no_outputs : next_inputs Mirror (0xAA ∷ []) [] ≡ 0x00 ∷ []
no_outputs = refl
