-- detail
-- The text that is written for a rack that is not accepted (own).
use Rattle.std.specs.Prelude.{codes, ℕ, List, ◌++◌}
use Rattle.std.specs.Fmt.{decimal}
use Rattle.dp_line.specs.Names.{open_fault_name}
use Rattle.rack_file.specs.Names.{rack_fault_name}
use Rattle.rack_file.specs.declared.fault.RackFault.{RackFault}
use Rattle.rack_file.specs.declared.fault.RackFault.TheVariants as racks

abbrev pub rack_fault_text : RackFault → List ℕ
rack_fault_text racks.OutOfMemory = codes "out of memory"
rack_fault_text (racks.Open position fault) = codes "rack line " ++ decimal position ++ codes " " ++ open_fault_name fault
rack_fault_text other = codes "rack " ++ rack_fault_name other
