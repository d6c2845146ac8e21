-- promise
-- Conditions on the state of a slave.
use Rattle.std.specs.Prelude.{Bool, true, false}
use Rattle.dp_sap.specs.declared.state.State.{State}
use Rattle.dp_sap.specs.declared.state.State.TheVariants.{WaitPrm, WaitCfg, DataExch}

-- the slave has parameters and configuration: its state is Data_Exch (IEC 61158-6-3, slave state machine)
abbrev pub is_in_data_exch : State → Bool
is_in_data_exch WaitPrm = false
is_in_data_exch WaitCfg = false
is_in_data_exch DataExch = true

-- the slave has no parameters: its state is Wait_Prm (IEC 61158-6-3, slave state machine)
abbrev pub is_in_wait_prm : State → Bool
is_in_wait_prm WaitPrm = true
is_in_wait_prm WaitCfg = false
is_in_wait_prm DataExch = false
