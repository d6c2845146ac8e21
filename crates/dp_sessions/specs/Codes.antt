-- detail
-- The numbers and names of the ends of sessions, and the numbers of the faults of pools (own).
use Rattle.std.specs.Prelude.{codes, ℕ, List}
use Rattle.dp_sessions.specs.declared.session_end.SessionEnd.{SessionEnd}
use Rattle.dp_sessions.specs.declared.session_end.SessionEnd.TheVariants as ends
use Rattle.dp_sessions.specs.declared.pool_fault.PoolFault.{PoolFault}
use Rattle.dp_sessions.specs.declared.pool_fault.PoolFault.TheVariants as faults

abbrev pub session_end_code : SessionEnd → ℕ
session_end_code ends.EndOfInput = 1
session_end_code ends.ReadFault = 2
session_end_code ends.WriteFault = 3
session_end_code ends.AddressHeld = 4
session_end_code ends.UnknownMaster = 5
session_end_code ends.TurnLimit = 6
session_end_code ends.NoPass = 7

abbrev pub session_end_name : SessionEnd → List ℕ
session_end_name ends.EndOfInput = codes "EndOfInput"
session_end_name ends.ReadFault = codes "ReadFault"
session_end_name ends.WriteFault = codes "WriteFault"
session_end_name ends.AddressHeld = codes "AddressHeld"
session_end_name ends.UnknownMaster = codes "UnknownMaster"
session_end_name ends.TurnLimit = codes "TurnLimit"
session_end_name ends.NoPass = codes "NoPass"

abbrev pub pool_fault_code : PoolFault → ℕ
pool_fault_code faults.OutOfMemory = 1
pool_fault_code faults.NoThread = 2
