-- detail
-- The names of states and faults in texts (own).
use Rattle.std.specs.Prelude.{codes, ℕ, List}
use Rattle.dp_sap.specs.declared.state.State.{State}
use Rattle.dp_sap.specs.declared.state.State.TheVariants as states
use Rattle.dp_sap.specs.declared.fault.SapFault.{SapFault}
use Rattle.dp_sap.specs.declared.fault.SapFault.TheVariants.{UnknownPoint}

abbrev pub state_name : State → List ℕ
state_name states.WaitPrm = codes "WaitPrm"
state_name states.WaitCfg = codes "WaitCfg"
state_name states.DataExch = codes "DataExch"

abbrev pub sap_fault_name : SapFault → List ℕ
sap_fault_name UnknownPoint = codes "UnknownPoint"
