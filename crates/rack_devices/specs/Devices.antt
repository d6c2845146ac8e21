-- detail
-- The next inputs that a device sets (own).
use Rattle.std.specs.Prelude.{ℕ, zero, suc, ◌+◌, ◌/◌, ◌%◌, ◌^◌, ◌<◌, Bool, true, false, List, [], ◌∷◌, ◌++◌, length, slice_index}
use Rattle.std.specs.Int.Digits.{number_from_digits}
use Rattle.dp_slave.specs.declared.description.Device.{Device}
use Rattle.dp_slave.specs.declared.description.Device.TheVariants.{Still, Counter, Mirror}
use Rattle.dp_slave.specs.SlaveRecord.{cut_or_filled}

abbrev pub is_still : Device → Bool
is_still Still = true
is_still Counter = false
is_still Mirror = false

-- each is an octet
abbrev pub AreOctets : List ℕ → Type 0
AreOctets octets = (index : ℕ) → slice_index octets index < 256

-- a number in `count` octets, high octet first
abbrev pub in_octets : ℕ → ℕ → List ℕ
in_octets zero number = []
in_octets (suc count) number = in_octets count (number / 256) ++ number % 256 ∷ []

-- the next number in the same number of octets; after all ones zero: the octets as a number, high octet first, plus 1, modulo 256 to the
-- power of their count
abbrev pub counted : List ℕ → List ℕ
counted octets = in_octets (length octets) ((number_from_digits 256 octets + 1) % 256 ^ length octets)

-- counted `steps` times
abbrev pub counted_for : ℕ → List ℕ → List ℕ
counted_for zero octets = octets
counted_for (suc steps) octets = counted (counted_for steps octets)

-- a still device leaves the inputs unchanged; a counter counts; a mirror gives the outputs, as many octets as there are inputs
abbrev pub next_inputs : Device → List ℕ → List ℕ → List ℕ
next_inputs Still inputs outputs = inputs
next_inputs Counter inputs outputs = counted inputs
next_inputs Mirror inputs outputs = cut_or_filled (length inputs) outputs
