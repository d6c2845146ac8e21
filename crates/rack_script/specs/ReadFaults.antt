-- detail
-- The faults of a run, for those of what it reads and explains (own).
use Rattle.explain_texts.specs.declared.explain_fault.ExplainFault.TheVariants as explains
use Rattle.explain_texts.specs.declared.read_fault.ReadFault.{ReadFault}
use Rattle.explain_texts.specs.declared.read_fault.ReadFault.TheVariants as reads
use Rattle.explain_texts.specs.declared.rows_fault.RowsFault.{RowsFault}
use Rattle.explain_texts.specs.declared.rows_fault.RowsFault.TheVariants as rows
use Rattle.rack_script.specs.declared.run_fault.RunFault.{RunFault}
use Rattle.rack_script.specs.declared.run_fault.RunFault.TheVariants as runs

abbrev pub run_fault_of_read : ReadFault → RunFault
run_fault_of_read reads.OutOfMemory = runs.OutOfMemory
run_fault_of_read reads.CannotRead = runs.CannotRead
run_fault_of_read reads.NotText = runs.NotText

abbrev pub run_fault_of_rows : RowsFault → RunFault
run_fault_of_rows (rows.Explain explains.OutOfMemory) = runs.OutOfMemory
run_fault_of_rows (rows.Explain explains.WriteFault) = runs.WriteFault
run_fault_of_rows (rows.Read fault) = run_fault_of_read fault
