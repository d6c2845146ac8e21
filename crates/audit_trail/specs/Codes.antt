-- detail
-- The numbers of faults (own).
use Rattle.std.specs.Prelude.{ℕ}
use Rattle.audit_trail.specs.declared.fault.TrailFault.{TrailFault}
use Rattle.audit_trail.specs.declared.fault.TrailFault.TheVariants as faults

abbrev pub trail_fault_code : TrailFault → ℕ
trail_fault_code faults.NoPass = 1
trail_fault_code faults.WriteFault = 2
