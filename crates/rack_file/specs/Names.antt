-- detail
-- The names of faults in texts (own).
use Rattle.std.specs.Prelude.{codes, ℕ, List}
use Rattle.rack_file.specs.declared.fault.RackFault.{RackFault}
use Rattle.rack_file.specs.declared.fault.RackFault.TheVariants as faults

abbrev pub rack_fault_name : RackFault → List ℕ
rack_fault_name faults.OutOfMemory = codes "OutOfMemory"
rack_fault_name faults.NotToml = codes "NotToml"
rack_fault_name faults.BadKey = codes "BadKey"
rack_fault_name faults.TwiceLine = codes "TwiceLine"
rack_fault_name (faults.Open position fault) = codes "Open"
