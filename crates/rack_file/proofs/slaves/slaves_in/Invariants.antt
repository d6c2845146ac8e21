use Rattle.std.proofs.Common.{◌≡◌, map, take, Ok}
use Rattle.toml.specs.View.{view}
use Rattle.rack_file.specs.TomlKeys.{each_from}
use Rattle.rack_file.specs.RackFile.{slave_at}
use Rattle.rack_file.proofs.slaves.slaves_in.Given as goal

abbrev pub invariant-loop-index : goal.invariant-loop-index
invariant-loop-index l = each_from (slave_at l.line) 1 (map view (take l.index l.values)) ≡ Ok l.slaves.items
