-- detail
-- The numbers of the faults.
use Rattle.std.specs.Prelude.{ℕ}
use Rattle.dp_sap.specs.declared.fault.SapFault.{SapFault}
use Rattle.dp_sap.specs.declared.fault.SapFault.TheVariants.{UnknownPoint}

-- the number of a fault (own)
abbrev pub fault_code : SapFault → ℕ
fault_code UnknownPoint = 1
