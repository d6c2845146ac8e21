-- detail
-- The numbers of faults, and their names in texts (own).
use Rattle.std.specs.Prelude.{codes, ℕ, List}
use Rattle.dp_text.specs.declared.op_line.TextFault.{TextFault}
use Rattle.dp_text.specs.declared.op_line.TextFault.TheVariants.{NotACommand}

abbrev pub text_fault_code : TextFault → ℕ
text_fault_code NotACommand = 1

abbrev pub text_fault_name : TextFault → List ℕ
text_fault_name NotACommand = codes "NotACommand"
