-- detail
-- The names of the faults of an explanation (own).
use Rattle.std.specs.Prelude.{codes, ℕ, List}
use Rattle.explain_texts.specs.declared.explain_fault.ExplainFault.{ExplainFault}
use Rattle.explain_texts.specs.declared.explain_fault.ExplainFault.TheVariants as faults

abbrev pub explain_fault_name : ExplainFault → List ℕ
explain_fault_name faults.OutOfMemory = codes "out of memory"
explain_fault_name faults.WriteFault = codes "cannot write"
