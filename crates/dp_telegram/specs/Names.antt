-- detail
-- The names of faults in texts (own).
use Rattle.std.specs.Prelude.{codes, ℕ, List}
use Rattle.dp_telegram.specs.declared.fault.FrameFault.{FrameFault}
use Rattle.dp_telegram.specs.declared.fault.FrameFault.TheVariants as faults

abbrev pub frame_fault_name : FrameFault → List ℕ
frame_fault_name faults.NoStart = codes "NoStart"
frame_fault_name faults.BadHead = codes "BadHead"
frame_fault_name faults.BadEnd = codes "BadEnd"
frame_fault_name faults.Short = codes "Short"
frame_fault_name faults.Long = codes "Long"
