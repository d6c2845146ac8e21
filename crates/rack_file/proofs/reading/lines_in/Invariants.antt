use Rattle.std.proofs.Common.{◌≡◌, map, take, length, Ok}
use Rattle.toml.specs.View.{view}
use Rattle.rack_file.specs.Rack.{line_described}
use Rattle.rack_file.specs.TomlKeys.{each_from}
use Rattle.rack_file.specs.RackFile.{line_at}
use Rattle.rack_file.proofs.reading.lines_in.Given as goal

abbrev pub invariant-loop-index : goal.invariant-loop-index
invariant-loop-index l = (each_from line_at 1 (map view (take l.index l.values)) ≡ Ok (map line_described l.lines.items)) × (length l.lines.items ≡ l.index)
