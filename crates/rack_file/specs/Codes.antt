-- detail
-- The numbers of faults (own).
use Rattle.std.specs.Prelude.{ℕ}
use Rattle.rack_file.specs.declared.fault.RackFault.{RackFault}
use Rattle.rack_file.specs.declared.fault.RackFault.TheVariants as faults

abbrev pub rack_fault_code : RackFault → ℕ
rack_fault_code faults.OutOfMemory = 1
rack_fault_code faults.NotToml = 2
rack_fault_code faults.BadKey = 3
rack_fault_code faults.TwiceLine = 4
rack_fault_code (faults.Open position fault) = 5
