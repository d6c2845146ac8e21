-- detail
-- The lines that a rack file describes, whether or not they can be opened and have numbers of their own (own).
use Rattle.std.specs.Prelude.{ℕ, List, Option, Some, None, Result, Ok, Err}
use Rattle.toml.specs.Data.{Members}
use Rattle.toml.specs.Parse.{parse_document}
use Rattle.rack_file.specs.declared.fault.RackFault.{RackFault}
use Rattle.rack_file.specs.declared.fault.RackFault.TheVariants as faults
use Rattle.rack_file.specs.Rack.{LineDescription}
use Rattle.rack_file.specs.RackFile.{lines_of, with_fault}

-- the lines that a document describes, or the fault; None is a text that is no document
abbrev pub lines_of_document : Option Members → Result (List LineDescription) RackFault
lines_of_document None = Err faults.NotToml
lines_of_document (Some file) = with_fault (lines_of file)

-- the lines that a text describes, or the reason why it describes none
abbrev pub lines_in : List ℕ → Result (List LineDescription) RackFault
lines_in text = lines_of_document (parse_document text)
