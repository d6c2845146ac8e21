-- promise
-- The description of a rack.
use Rattle.std.specs.Prelude.{ℕ, List, map, Option}
use Rattle.dp_line.specs.World.{Description, description_of}
use Rattle.rack_file.specs.declared.rack.Rack.{Rack}
use Rattle.rack_file.specs.declared.rack.RackLine.{RackLine}

-- a line of a rack, and the ports where it listens
pub record LineDescription : Type 0 where
  pub line : Description
  pub listen : Option ℕ
  pub operator : Option ℕ

-- a rack: the number of its workers, and its lines in the order of the file
pub record RackDescription : Type 0 where
  pub workers : ℕ
  pub lines : List LineDescription

abbrev pub line_described : RackLine → LineDescription
line_described line = record { line = description_of line.spec; listen = line.listen; operator = line.operator }

-- the description that a `Rack` holds
abbrev pub rack_described : Rack → RackDescription
rack_described rack = record { workers = rack.workers; lines = map line_described rack.lines.items }
