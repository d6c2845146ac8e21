use Rattle.std.proofs.Common.{◌≡◌, map, take, length, Ok}
use Rattle.toml.specs.View.{view}
use Rattle.rack_file.specs.TomlKeys.{each_of}
use Rattle.rack_file.specs.RackFile.{configuration_of}
use Rattle.rack_file.proofs.slaves.configurations_in.Given as goal

abbrev pub invariant-loop-value : goal.invariant-loop-value
invariant-loop-value l = (each_of configuration_of (map view (take l.value-index l.values)) ≡ Ok l.cfgs.items) × (length l.cfgs.items ≡ l.value-index)
