-- helper
-- Acts on a slave one after another. The verdict on its request, or the line, lets each of them through.
use Rattle.std.specs.Prelude.{◌≡◌, ◌==◌, ◌<◌, ◌≤◌, ◌&&◌, nat_lt, if◌then◌else◌, not, Bool, true, false, List, [], ◌∷◌, length, Some, None, is_some, is_none}
use Rattle.dp_sap.specs.States.{is_in_data_exch, is_in_wait_prm}
use Rattle.dp_slave.specs.SlaveRecord.{SlaveRecord, configurations, full_time, input_length, output_length, zeros}
use Rattle.dp_slave.specs.Acts.{Act, locks, configures, misconfigures, exchanges, exchanges_none, is_controlled, is_fed, releases}
use Rattle.dp_slave.specs.Fields.{acted, keeps_shape}

-- the slave can meet the act in its state: Chk_Cfg comes while it is held, and a good one is for one of its configurations; Data_Exchange and
-- Global_Control come only in Data_Exch, an empty Data_Exchange only to a cleared slave; new outputs and inputs are as many as it has
abbrev pub fits : SlaveRecord → Act → Bool
fits slave (configures number) = not (is_in_wait_prm slave.state) && nat_lt number (length (configurations slave.description))
fits slave misconfigures = not (is_in_wait_prm slave.state)
fits slave (exchanges octets) = is_in_data_exch slave.state && length octets == output_length slave
fits slave exchanges_none = is_in_data_exch slave.state && slave.cleared
fits slave (is_controlled control) = is_in_data_exch slave.state
fits slave (is_fed octets) = length octets == input_length slave
fits slave act = true

abbrev pub all_fit : SlaveRecord → List Act → Bool
all_fit slave [] = true
all_fit slave (act ∷ acts) = fits slave act && all_fit (acted slave act) acts

abbrev pub acts_after : SlaveRecord → List Act → SlaveRecord
acts_after slave [] = slave
acts_after slave (act ∷ acts) = acts_after (acted slave act) acts

-- the act makes a slave no longer cleared: a lock, a release, a configuration of another number, or a Data_Exchange of the whole length (own)
abbrev pub ends_clearing : SlaveRecord → Act → Bool
ends_clearing slave (locks sender place prm) = true
ends_clearing slave (configures number) = not (keeps_shape slave number)
ends_clearing slave (exchanges octets) = true
ends_clearing slave act = releases slave act

-- what is true of a slave, whatever acts came before
pub record IsSound (slave : SlaveRecord) : Type 0 where
  -- it is in Wait_Prm exactly when nobody holds it, and has parameters exactly when a master does
  pub held : is_in_wait_prm slave.state ≡ is_none slave.holder
  pub parameters : is_some slave.prm ≡ is_some slave.holder
  -- a watchdog runs exactly when the parameters ask for one, and so only under a holder
  pub watchdog : is_some slave.left ≡ is_some (full_time slave)
  -- outside Data_Exch outputs and latest data are zero, and neither mode is on
  pub outputs_zero : is_in_data_exch slave.state ≡ false → slave.outputs ≡ zeros (output_length slave)
  pub latest_zero : is_in_data_exch slave.state ≡ false → slave.latest ≡ zeros (output_length slave)
  pub no_sync : is_in_data_exch slave.state ≡ false → slave.sync_mode ≡ false
  pub no_freeze : is_in_data_exch slave.state ≡ false → slave.freeze_mode ≡ false
  -- in Data_Exch the configuration that its holder sent is the shape in force, else it has sent none; the shape is one of the described ones, if
  -- there are any
  pub configured : slave.cfg ≡ (if is_in_data_exch slave.state then Some slave.shape else None)
  pub shaped : 1 ≤ length (configurations slave.description) → slave.shape < length (configurations slave.description)
  -- a slave that is cleared is fail-safe and in Data_Exch, and its outputs and latest data are zero
  pub cleared_failsafe : slave.cleared ≡ true → slave.description.failsafe ≡ true
  pub cleared_exchanging : slave.cleared ≡ true → is_in_data_exch slave.state ≡ true
  pub cleared_outputs : slave.cleared ≡ true → slave.outputs ≡ zeros (output_length slave)
  pub cleared_latest : slave.cleared ≡ true → slave.latest ≡ zeros (output_length slave)
  -- the lengths are those of the shape in force
  pub inputs_long : length slave.inputs ≡ input_length slave
  pub frozen_inputs_long : length slave.frozen_inputs ≡ input_length slave
  pub outputs_long : length slave.outputs ≡ output_length slave
  pub latest_long : length slave.latest ≡ output_length slave
