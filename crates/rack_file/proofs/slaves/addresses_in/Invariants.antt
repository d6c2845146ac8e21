use Rattle.std.proofs.Common.{◌≡◌, map, take, length, Ok}
use Rattle.toml.specs.View.{view}
use Rattle.rack_file.specs.TomlKeys.{number_from, each_of}
use Rattle.rack_file.proofs.slaves.addresses_in.Given as goal

abbrev pub invariant-loop-value : goal.invariant-loop-value
invariant-loop-value l = (each_of (number_from 0 255) (map view (take l.value-index l.values)) ≡ Ok l.masters.items) × (length l.masters.items ≡ l.value-index)
