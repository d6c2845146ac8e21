-- detail
-- The text that is written for the fault of a run (own).
use Rattle.std.specs.Prelude.{codes, ℕ, List, ◌++◌}
use Rattle.std.specs.Fmt.{decimal}
use Rattle.rack_file.specs.FaultText.{rack_fault_text}
use Rattle.rack_script.specs.declared.run_fault.RunFault.{RunFault}
use Rattle.rack_script.specs.declared.run_fault.RunFault.TheVariants as runs

abbrev pub run_fault_text : RunFault → List ℕ
run_fault_text (runs.Rack fault) = rack_fault_text fault
run_fault_text (runs.Script line) = codes "script line " ++ decimal line
run_fault_text runs.OutOfMemory = codes "out of memory"
run_fault_text runs.WriteFault = codes "cannot write"
run_fault_text runs.CannotRead = codes "cannot read"
run_fault_text runs.NotText = codes "not UTF-8"
