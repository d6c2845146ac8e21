-- promise
-- What an act leaves of each field of a slave: one equation for each field, by cases on the act. The last case is for all other acts: the field
-- stays, but a released slave gets what released slaves have, and a retriggered watchdog its full time.
use Rattle.std.specs.Prelude.{ℕ, ◌-◌, ◌==◌, ◌&&◌, ◌||◌, not, Bool, true, false, if◌then◌else◌, List, Option, Some, None, is_some, option_map}
use Rattle.std.specs.Option.{option_map_or}
use Rattle.dp_sap.specs.declared.state.State.{State}
use Rattle.dp_sap.specs.declared.state.State.TheVariants.{WaitPrm, WaitCfg, DataExch}
use Rattle.dp_sap.specs.AccessTable.{BusyMarks, with_mark}
use Rattle.dp_prm.specs.declared.prm.Prm.{Prm}
use Rattle.dp_diag.specs.declared.diag.Diag.{Diag}
use Rattle.dp_diag.specs.Diagnosis.{reported}
use Rattle.dp_slave.specs.SlaveRecord.{SlaveRecord, cut_or_filled, full_time, inputs_of, is_held_by, output_length, outputs_of, zeros}
use Rattle.dp_slave.specs.Acts.{Act, locks, faults, sets_min_tsdr, configures, misconfigures, exchanges, exchanges_none, sends_diagnosis, is_controlled, is_fed, reports, is_marked, ticks, Control, releases, retriggers}

-- a lock waits for the configuration, and a good one begins data exchange (IEC 61158-6-3, slave state machine)
abbrev pub state_after : SlaveRecord → Act → State
state_after slave (locks sender place prm) = WaitCfg
state_after slave (configures number) = DataExch
state_after slave act = if releases slave act then WaitPrm else slave.state

-- the master that locks is the holder (IEC 61158-6-3, Set_Prm request)
abbrev pub holder_after : SlaveRecord → Act → Option ℕ
holder_after slave (locks sender place prm) = Some sender
holder_after slave act = if releases slave act then None else slave.holder

-- a master that locks again keeps its place (own)
abbrev pub since_after : SlaveRecord → Act → ℕ
since_after slave (locks sender place prm) = if is_held_by sender slave then slave.since else place
since_after slave act = if releases slave act then 0 else slave.since

-- min TSDR 0 leaves the value unchanged (IEC 61158-6-3, Set_Prm request)
abbrev pub unless_zero : ℕ → ℕ → ℕ
unless_zero octet min_tsdr = if octet == 0 then min_tsdr else octet

-- a lock sets min TSDR, and so does a request for only min TSDR; a release doesn't change it (own)
abbrev pub min_tsdr_after : SlaveRecord → Act → ℕ
min_tsdr_after slave (locks sender place prm) = unless_zero prm.min_tsdr slave.min_tsdr
min_tsdr_after slave (sets_min_tsdr sender octet) = unless_zero octet slave.min_tsdr
min_tsdr_after slave act = slave.min_tsdr

-- the parameters are those of the lock (IEC 61158-6-3, Set_Prm request)
abbrev pub prm_after : SlaveRecord → Act → Option Prm
prm_after slave (locks sender place prm) = Some prm
prm_after slave act = if releases slave act then None else slave.prm

-- a good configuration of the shape in force keeps the shape; any other one changes it, and with it lengths and data (own)
abbrev pub keeps_shape : SlaveRecord → ℕ → Bool
keeps_shape slave number = number == slave.shape

-- only a good configuration changes the shape: releases and locks keep it (own)
abbrev pub shape_after : SlaveRecord → Act → ℕ
shape_after slave (configures number) = number
shape_after slave act = slave.shape

-- after a lock there is no configuration yet, and after a good Chk_Cfg it is the one of this number (IEC 61158-6-3, Chk_Cfg request)
abbrev pub cfg_after : SlaveRecord → Act → Option ℕ
cfg_after slave (locks sender place prm) = None
cfg_after slave (configures number) = Some number
cfg_after slave act = if releases slave act then None else slave.cfg

-- the device sets the inputs, whatever the state; another shape cuts them or fills them with zeros (own)
abbrev pub inputs_after : SlaveRecord → Act → List ℕ
inputs_after slave (is_fed octets) = octets
inputs_after slave (configures number) =
    if keeps_shape slave number then slave.inputs else cut_or_filled (inputs_of slave.description number) slave.inputs
inputs_after slave act = slave.inputs

-- the parameters in force set Sync_Req or Freeze_Req (IEC 61158-6-3, Set_Prm request)
abbrev pub sync_is_asked : SlaveRecord → Bool
sync_is_asked slave = option_map_or (λ prm. prm.sync_req) slave.prm false

abbrev pub freeze_is_asked : SlaveRecord → Bool
freeze_is_asked slave = option_map_or (λ prm. prm.freeze_req) slave.prm false

-- Unfreeze goes before Freeze, and Unsync before Sync (own order)
abbrev pub is_frozen_by : SlaveRecord → Control → Bool
is_frozen_by slave control = not control.unfreeze && control.freeze && freeze_is_asked slave

abbrev pub is_synced_by : SlaveRecord → Control → Bool
is_synced_by slave control = not control.unsync && control.sync && sync_is_asked slave

-- Freeze freezes the inputs (IEC 61158-6-3, Global_Control request); another shape cuts or fills the frozen inputs as it does the inputs (own)
abbrev pub frozen_inputs_after : SlaveRecord → Act → List ℕ
frozen_inputs_after slave (configures number) =
    if keeps_shape slave number then slave.frozen_inputs else cut_or_filled (inputs_of slave.description number) slave.frozen_inputs
frozen_inputs_after slave (is_controlled control) = if is_frozen_by slave control then slave.inputs else slave.frozen_inputs
frozen_inputs_after slave act = slave.frozen_inputs

-- Unfreeze ends freeze mode, and Freeze starts it (IEC 61158-6-3, Global_Control request); another shape ends it (own)
abbrev pub freeze_mode_after : SlaveRecord → Act → Bool
freeze_mode_after slave (locks sender place prm) = false
freeze_mode_after slave (configures number) = keeps_shape slave number && slave.freeze_mode
freeze_mode_after slave (is_controlled control) = not control.unfreeze && (is_frozen_by slave control || slave.freeze_mode)
freeze_mode_after slave act = if releases slave act then false else slave.freeze_mode

-- Unsync ends sync mode, and Sync starts it (IEC 61158-6-3, Global_Control request); another shape ends it (own)
abbrev pub sync_mode_after : SlaveRecord → Act → Bool
sync_mode_after slave (locks sender place prm) = false
sync_mode_after slave (configures number) = keeps_shape slave number && slave.sync_mode
sync_mode_after slave (is_controlled control) = not control.unsync && (is_synced_by slave control || slave.sync_mode)
sync_mode_after slave act = if releases slave act then false else slave.sync_mode

-- Clear_Data comes first, and makes the latest data and the outputs zero (IEC 61158-6-3, Global_Control request; own order)
abbrev pub cleared_by : SlaveRecord → Control → List ℕ → List ℕ
cleared_by slave control octets = if control.clear_data then zeros (output_length slave) else octets

-- the data that came last; an empty Data_Exchange of a cleared slave stands for zeros (own)
abbrev pub latest_after : SlaveRecord → Act → List ℕ
latest_after slave (locks sender place prm) = zeros (output_length slave)
latest_after slave (configures number) = if keeps_shape slave number then slave.latest else zeros (outputs_of slave.description number)
latest_after slave (exchanges octets) = octets
latest_after slave exchanges_none = zeros (output_length slave)
latest_after slave (is_controlled control) = cleared_by slave control slave.latest
latest_after slave act = if releases slave act then zeros (output_length slave) else slave.latest

-- a good configuration of the shape in force keeps the outputs: zero after a lock, and in data exchange what they were; one of another number
-- makes them zeros of its length (own). In sync mode data wait until Sync or Unsync puts them out (IEC 61158-6-3, Global_Control request)
abbrev pub outputs_after : SlaveRecord → Act → List ℕ
outputs_after slave (locks sender place prm) = zeros (output_length slave)
outputs_after slave (configures number) = if keeps_shape slave number then slave.outputs else zeros (outputs_of slave.description number)
outputs_after slave (exchanges octets) = if slave.sync_mode then slave.outputs else octets
outputs_after slave exchanges_none = if slave.sync_mode then slave.outputs else zeros (output_length slave)
outputs_after slave (is_controlled control) =
    if control.unsync || is_synced_by slave control then cleared_by slave control slave.latest else cleared_by slave control slave.outputs
outputs_after slave act = if releases slave act then zeros (output_length slave) else slave.outputs

-- Clear_Data makes a fail-safe slave cleared. A Data_Exchange of the whole length (without outputs an empty one), a lock, a release or a
-- configuration of another number ends that; any other empty Data_Exchange doesn't (own)
abbrev pub cleared_after : SlaveRecord → Act → Bool
cleared_after slave (locks sender place prm) = false
cleared_after slave (configures number) = keeps_shape slave number && slave.cleared
cleared_after slave (exchanges octets) = false
cleared_after slave (is_controlled control) = control.clear_data && slave.description.failsafe || slave.cleared
cleared_after slave act = if releases slave act then false else slave.cleared

-- a watchdog that runs has its full time again (own)
abbrev pub left_again : SlaveRecord → Option ℕ
left_again slave = if is_some slave.left then full_time slave else None

-- a lock starts the watchdog with the parameters' time, and time runs it down (IEC 61158-6-3, slave state machine, watchdog); what
-- retriggers it is own
abbrev pub left_after : SlaveRecord → Act → Option ℕ
left_after slave (locks sender place prm) = prm.watchdog
left_after slave (ticks time) = if releases slave (ticks time) then None else option_map (λ units. units - time) slave.left
left_after slave act = if releases slave act then None else if retriggers slave act then left_again slave else slave.left

-- the three faults of the diagnosis: a lock clears them; a parameter fault sets Prm_Fault, clears Cfg_Fault, and shows in Not_Supported whether
-- it was for an unsupported request; a configuration sets or clears Cfg_Fault (IEC 61158-6-3, Slave_Diag response; own in detail)
abbrev pub prm_fault_after : SlaveRecord → Act → Bool
prm_fault_after slave (locks sender place prm) = false
prm_fault_after slave (faults not_supported) = true
prm_fault_after slave act = slave.diag.prm_fault

abbrev pub cfg_fault_after : SlaveRecord → Act → Bool
cfg_fault_after slave (locks sender place prm) = false
cfg_fault_after slave (faults not_supported) = false
cfg_fault_after slave (configures number) = false
cfg_fault_after slave misconfigures = true
cfg_fault_after slave act = slave.diag.cfg_fault

abbrev pub not_supported_after : SlaveRecord → Act → Bool
not_supported_after slave (locks sender place prm) = false
not_supported_after slave (faults not_supported) = not_supported
not_supported_after slave act = slave.diag.not_supported

-- a report is unread until the holder reads the diagnosis (own)
abbrev pub unread_after : SlaveRecord → Act → Bool
unread_after slave (reports ext stat overflow octets) = true
unread_after slave (sends_diagnosis sender) = not (is_held_by sender slave) && slave.diag.unread
unread_after slave act = slave.diag.unread

-- what the application reported last (own)
abbrev pub report_after : SlaveRecord → Act → Diag
report_after slave (reports ext stat overflow octets) = reported slave.diag ext stat overflow octets
report_after slave act = slave.diag

-- the diagnosis of these parts (own)
abbrev pub diag_after : SlaveRecord → Act → Diag
diag_after slave act = record (report_after slave act) {
  unread = unread_after slave act;
  prm_fault = prm_fault_after slave act;
  cfg_fault = cfg_fault_after slave act;
  not_supported = not_supported_after slave act;
}

-- the operator's marks (own)
abbrev pub busy_after : SlaveRecord → Act → BusyMarks
busy_after slave (is_marked point busy) = with_mark slave.busy point busy
busy_after slave act = slave.busy

-- a slave after an act: description and frame memories stay (own)
unfoldable pub acted : SlaveRecord → Act → SlaveRecord
acted slave act = record slave {
  state = state_after slave act;
  holder = holder_after slave act;
  since = since_after slave act;
  min_tsdr = min_tsdr_after slave act;
  prm = prm_after slave act;
  cfg = cfg_after slave act;
  shape = shape_after slave act;
  inputs = inputs_after slave act;
  frozen_inputs = frozen_inputs_after slave act;
  outputs = outputs_after slave act;
  latest = latest_after slave act;
  sync_mode = sync_mode_after slave act;
  freeze_mode = freeze_mode_after slave act;
  cleared = cleared_after slave act;
  left = left_after slave act;
  diag = diag_after slave act;
  busy = busy_after slave act;
}
