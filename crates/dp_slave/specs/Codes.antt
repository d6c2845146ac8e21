-- detail
-- The numbers of faults (own).
use Rattle.std.specs.Prelude.{ℕ}
use Rattle.dp_slave.specs.declared.fault.InputFault.{InputFault}
use Rattle.dp_slave.specs.declared.fault.InputFault.TheVariants.{WrongLength}

abbrev pub input_fault_code : InputFault → ℕ
input_fault_code WrongLength = 1
