-- detail
-- The names of faults in texts (own).
use Rattle.std.specs.Prelude.{codes, ℕ, List}
use Rattle.dp_slave.specs.declared.fault.InputFault.{InputFault}
use Rattle.dp_slave.specs.declared.fault.InputFault.TheVariants.{WrongLength}

abbrev pub input_fault_name : InputFault → List ℕ
input_fault_name WrongLength = codes "WrongLength"
