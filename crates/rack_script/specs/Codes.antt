-- detail
-- The numbers of faults (own).
use Rattle.std.specs.Prelude.{ℕ}
use Rattle.rack_script.specs.declared.run_fault.RunFault.{RunFault}
use Rattle.rack_script.specs.declared.run_fault.RunFault.TheVariants as runs

abbrev pub run_fault_code : RunFault → ℕ
run_fault_code runs.OutOfMemory = 1
run_fault_code (runs.Rack fault) = 2
run_fault_code (runs.Script line) = 3
run_fault_code runs.WriteFault = 4
run_fault_code runs.CannotRead = 5
run_fault_code runs.NotText = 6
