-- helper
-- Slave 5 of a line with masters 1 and 2, or with only master 1: ident number 80A1, two octets of outputs and two of inputs, with Sync and Freeze.
use Rattle.std.specs.Prelude.{◌≡◌, ℕ, List, [], ◌∷◌, true, false, Option, Some, None, refl}
use Rattle.dp_telegram.specs.declared.access.Parts.{Parts}
use Rattle.dp_telegram.specs.FunctionCode.{user_error}
use Rattle.dp_sap.specs.declared.state.State.TheVariants.{WaitPrm, WaitCfg, DataExch}
use Rattle.dp_sap.specs.AccessTable.{no_lists, data_exchange, get_cfg, rd_outp, slave_diag, set_prm, chk_cfg, global_control}
use Rattle.dp_responder.specs.declared.rule.Rule.TheVariants.{Length}
use Rattle.dp_responder.specs.declared.judgement.Judged.TheVariants.{Pass, Refuse}
use Rattle.dp_responder.specs.Judgement.{judgement}
use Rattle.dp_diag.specs.DiagnosisText.{diagnosis_text}
use Rattle.dp_slave.specs.declared.description.SlaveSpec.{SlaveSpec}
use Rattle.dp_slave.specs.declared.description.Device.TheVariants.{Still}
use Rattle.dp_slave.specs.SlaveRecord.{SlaveRecord, starting_slave, released, points_of, diag_facts}
use Rattle.dp_slave.specs.Acts.{is_fed, ticks, reports, releases}
use Rattle.dp_slave.specs.Fields.{acted}
use Rattle.dp_slave.specs.Services.{low, service_act, service_answer}

abbrev pub slave_5 : SlaveSpec
slave_5 = record {
  address = 5;
  ident = 0x80A1;
  cfgs = record { items = record { items = 0x21 ∷ 0x11 ∷ [] } ∷ [] };
  sync = true;
  freeze = true;
  user_max = 237;
  device = Still;
  lists = no_lists;
  failsafe = false;
}

-- a request of a master to a point, at this place of the journal
unfoldable pub requested : ℕ → ℕ → Option ℕ → List ℕ → SlaveRecord → SlaveRecord
requested sender place point octets slave = acted slave (service_act slave sender place point octets)

-- it starts, and its inputs are set to AA 55
unfoldable pub fed : SlaveRecord
fed = acted (starting_slave (1 ∷ 2 ∷ []) slave_5) (is_fed (0xAA ∷ 0x55 ∷ []))

-- master 1 locks it: watchdog of 2 times 5 units, min TSDR 11, group 1
unfoldable pub locked : SlaveRecord
locked = requested 1 2 set_prm (0x88 ∷ 0x02 ∷ 0x05 ∷ 0x0B ∷ 0x80 ∷ 0xA1 ∷ 0x01 ∷ []) fed

pub set_prm_locks_state : locked.state ≡ WaitCfg
unfolding locked requested fed acted
set_prm_locks_state = refl

pub set_prm_locks_holder : locked.holder ≡ Some 1
unfolding locked requested fed acted
set_prm_locks_holder = refl

pub set_prm_locks_since : locked.since ≡ 2
unfolding locked requested fed acted
set_prm_locks_since = refl

pub set_prm_locks_watchdog : locked.left ≡ Some 10
unfolding locked requested fed acted
set_prm_locks_watchdog = refl

-- the holder locks again, with min TSDR 12: it keeps its place
pub relock_keeps_the_place : (requested 1 9 set_prm (0x80 ∷ 0x00 ∷ 0x00 ∷ 0x0C ∷ 0x80 ∷ 0xA1 ∷ 0x01 ∷ []) locked).since ≡ 2
unfolding locked requested fed acted
relock_keeps_the_place = refl

pub relock_sets_min_tsdr : (requested 1 9 set_prm (0x80 ∷ 0x00 ∷ 0x00 ∷ 0x0C ∷ 0x80 ∷ 0xA1 ∷ 0x01 ∷ []) locked).min_tsdr ≡ 12
unfolding locked requested fed acted
relock_sets_min_tsdr = refl

-- its configuration is good
unfoldable pub configured : SlaveRecord
configured = requested 1 3 chk_cfg (0x21 ∷ 0x11 ∷ []) locked

pub chk_cfg_good : configured.state ≡ DataExch
unfolding configured locked requested fed acted
chk_cfg_good = refl

-- data 12 34 come, and the reply has the inputs
unfoldable pub exchanged : SlaveRecord
exchanged = requested 1 4 data_exchange (0x12 ∷ 0x34 ∷ []) configured

pub data_exchange_first : exchanged.outputs ≡ 0x12 ∷ 0x34 ∷ []
unfolding exchanged configured locked requested fed acted
data_exchange_first = refl

pub data_exchange_answers : service_answer configured data_exchange ≡ low (0xAA ∷ 0x55 ∷ [])
unfolding configured locked requested fed acted
data_exchange_answers = refl

-- three octets are refused with UE, so the outputs stay
pub wrong_length_keeps_outputs :
    judgement (points_of exchanged) None 1 0x7D (record { dsap = None; ssap = None; payload = record { items = 0x12 ∷ 0x34 ∷ 0x56 ∷ [] } }) ≡ Refuse user_error Length
unfolding exchanged configured locked requested fed acted
wrong_length_keeps_outputs = refl

-- with Sync_Req: Sync, then data 56 78, which wait, then Unsync, which puts them out
unfoldable pub synced_slave : SlaveRecord
synced_slave =
    requested 1 6 global_control (0x20 ∷ 0x00 ∷ [])
    (requested 1 5 data_exchange (0x12 ∷ 0x34 ∷ [])
    (requested 1 4 chk_cfg (0x21 ∷ 0x11 ∷ [])
    (requested 1 3 set_prm (0xA8 ∷ 0x02 ∷ 0x05 ∷ 0x0B ∷ 0x80 ∷ 0xA1 ∷ 0x01 ∷ []) fed)))

unfoldable pub waiting : SlaveRecord
waiting = requested 1 7 data_exchange (0x56 ∷ 0x78 ∷ []) synced_slave

pub sync_keeps_outputs : service_answer waiting rd_outp ≡ low (0x12 ∷ 0x34 ∷ [])
unfolding waiting synced_slave requested fed acted
sync_keeps_outputs = refl

pub unsync_puts_out : service_answer (requested 1 8 global_control (0x10 ∷ 0x00 ∷ []) waiting) rd_outp ≡ low (0x56 ∷ 0x78 ∷ [])
unfolding waiting synced_slave requested fed acted
unsync_puts_out = refl

-- 10 units release it, 9 leave one
pub watchdog_releases : releases exchanged (ticks 10) ≡ true
unfolding exchanged configured locked requested fed acted
watchdog_releases = refl

pub released_by_time : (acted exchanged (ticks 10)).state ≡ WaitPrm
unfolding exchanged configured locked requested fed acted
released_by_time = refl

pub one_unit_is_left : (acted exchanged (ticks 9)).left ≡ Some 1
unfolding exchanged configured locked requested fed acted
one_unit_is_left = refl

-- another ident number: the diagnosis shows the fault, and the slave is released
pub wrong_ident_faults :
    diagnosis_text (diag_facts (requested 1 6 set_prm (0x88 ∷ 0x02 ∷ 0x05 ∷ 0x0B ∷ 0x80 ∷ 0xA2 ∷ 0x01 ∷ []) exchanged))
    ≡ 0x42 ∷ 0x05 ∷ 0x00 ∷ 0xFF ∷ 0x80 ∷ 0xA1 ∷ []
unfolding exchanged configured locked requested fed acted
wrong_ident_faults = refl

-- an unlock releases it
pub unlock_releases : requested 1 6 set_prm (0x40 ∷ 0 ∷ 0 ∷ 0 ∷ 0 ∷ 0 ∷ 0 ∷ []) exchanged ≡ released exchanged
unfolding exchanged configured locked requested fed acted released
unlock_releases = refl

-- a wrong configuration: Cfg_Fault, and the slave is released
pub wrong_configuration_faults :
    diagnosis_text (diag_facts (requested 1 5 chk_cfg (0x21 ∷ 0x00 ∷ []) configured)) ≡ 0x06 ∷ 0x05 ∷ 0x00 ∷ 0xFF ∷ 0x80 ∷ 0xA1 ∷ []
unfolding configured locked requested fed acted
wrong_configuration_faults = refl

-- a report is due until the holder reads it
unfoldable pub reporting : SlaveRecord
reporting = acted exchanged (reports true false false (0x03 ∷ 0x01 ∷ 0xFF ∷ []))

pub diagnosis_due : service_answer reporting data_exchange ≡ record { high = true; octets = 0xAA ∷ 0x55 ∷ [] }
unfolding reporting exchanged configured locked requested fed acted
diagnosis_due = refl

pub diagnosis_read : service_answer reporting slave_diag ≡ low (0x08 ∷ 0x0C ∷ 0x00 ∷ 0x01 ∷ 0x80 ∷ 0xA1 ∷ 0x03 ∷ 0x01 ∷ 0xFF ∷ [])
unfolding reporting exchanged configured locked requested fed acted
diagnosis_read = refl

pub strangers_reading_leaves_it_due : service_answer (requested 2 6 slave_diag [] reporting) data_exchange ≡ record { high = true; octets = 0xAA ∷ 0x55 ∷ [] }
unfolding reporting exchanged configured locked requested fed acted
strangers_reading_leaves_it_due = refl

pub holders_reading_ends_it : service_answer (requested 1 6 slave_diag [] reporting) data_exchange ≡ low (0xAA ∷ 0x55 ∷ [])
unfolding reporting exchanged configured locked requested fed acted
holders_reading_ends_it = refl

-- a slave with two configurations: two octets each way, and one octet each way
abbrev pub slave_5_of_two : SlaveSpec
slave_5_of_two = record slave_5 {
  cfgs = record { items = record { items = 0x21 ∷ 0x11 ∷ [] } ∷ record { items = 0x20 ∷ 0x10 ∷ [] } ∷ [] };
}

unfoldable pub locked_of_two : SlaveRecord
locked_of_two =
    requested 1 2 set_prm (0x88 ∷ 0x02 ∷ 0x05 ∷ 0x0B ∷ 0x80 ∷ 0xA1 ∷ 0x01 ∷ [])
    (acted (starting_slave (1 ∷ 2 ∷ []) slave_5_of_two) (is_fed (0xAA ∷ 0x55 ∷ [])))

-- until a master chooses, the first is in force
pub first_shape_is_in_force : locked_of_two.shape ≡ 0
unfolding locked_of_two requested acted
first_shape_is_in_force = refl

-- the second is chosen: inputs are cut, outputs are zero, and each has one octet
unfoldable pub second_chosen : SlaveRecord
second_chosen = requested 1 3 chk_cfg (0x20 ∷ 0x10 ∷ []) locked_of_two

pub second_shape : second_chosen.shape ≡ 1
unfolding second_chosen locked_of_two requested acted
second_shape = refl

pub second_is_sent : second_chosen.cfg ≡ Some 1
unfolding second_chosen locked_of_two requested acted
second_is_sent = refl

pub inputs_are_cut : second_chosen.inputs ≡ 0xAA ∷ []
unfolding second_chosen locked_of_two requested acted
inputs_are_cut = refl

pub outputs_are_one_octet : second_chosen.outputs ≡ 0 ∷ []
unfolding second_chosen locked_of_two requested acted
outputs_are_one_octet = refl

pub get_cfg_follows : service_answer second_chosen get_cfg ≡ low (0x20 ∷ 0x10 ∷ [])
unfolding second_chosen locked_of_two requested acted
get_cfg_follows = refl

-- the slave keeps that shape when it is released; a good configuration of the first then fills the inputs with a zero
pub shape_outlasts_a_release : (released second_chosen).shape ≡ 1
unfolding second_chosen locked_of_two requested acted released
shape_outlasts_a_release = refl

pub inputs_are_filled : (requested 1 4 chk_cfg (0x21 ∷ 0x11 ∷ []) second_chosen).inputs ≡ 0xAA ∷ 0x00 ∷ []
unfolding second_chosen locked_of_two requested acted
inputs_are_filled = refl

-- in sync mode another configuration ends the mode; the same one keeps the mode and the outputs
unfoldable pub synced_of_two : SlaveRecord
synced_of_two =
    requested 1 6 global_control (0x20 ∷ 0x00 ∷ [])
    (requested 1 5 data_exchange (0x12 ∷ 0x34 ∷ [])
    (requested 1 4 chk_cfg (0x21 ∷ 0x11 ∷ [])
    (requested 1 3 set_prm (0xA8 ∷ 0x02 ∷ 0x05 ∷ 0x0B ∷ 0x80 ∷ 0xA1 ∷ 0x01 ∷ []) (starting_slave (1 ∷ []) slave_5_of_two))))

pub same_configuration_keeps_sync : (requested 1 7 chk_cfg (0x21 ∷ 0x11 ∷ []) synced_of_two).sync_mode ≡ true
unfolding synced_of_two requested acted
same_configuration_keeps_sync = refl

pub same_configuration_keeps_outputs : (requested 1 7 chk_cfg (0x21 ∷ 0x11 ∷ []) synced_of_two).outputs ≡ 0x12 ∷ 0x34 ∷ []
unfolding synced_of_two requested acted
same_configuration_keeps_outputs = refl

pub another_configuration_clears_outputs : (requested 1 7 chk_cfg (0x20 ∷ 0x10 ∷ []) synced_of_two).outputs ≡ 0 ∷ []
unfolding synced_of_two requested acted
another_configuration_clears_outputs = refl

pub another_configuration_ends_sync : (requested 1 7 chk_cfg (0x20 ∷ 0x10 ∷ []) synced_of_two).sync_mode ≡ false
unfolding synced_of_two requested acted
another_configuration_ends_sync = refl

-- a fail-safe slave in data exchange with outputs 12 34, and after Clear_Data
abbrev pub failsafe_5 : SlaveSpec
failsafe_5 = record slave_5 { failsafe = true }

unfoldable pub exchanged_safely : SlaveRecord
exchanged_safely =
    requested 1 4 data_exchange (0x12 ∷ 0x34 ∷ [])
    (requested 1 3 chk_cfg (0x21 ∷ 0x11 ∷ [])
    (requested 1 2 set_prm (0x88 ∷ 0x02 ∷ 0x05 ∷ 0x0B ∷ 0x80 ∷ 0xA1 ∷ 0x01 ∷ []) (starting_slave (1 ∷ []) failsafe_5)))

unfoldable pub cleared_slave : SlaveRecord
cleared_slave = requested 1 5 global_control (0x02 ∷ 0x00 ∷ []) exchanged_safely

-- an empty request to exchange data
abbrev pub empty_request : Parts
empty_request = record { dsap = None; ssap = None; payload = record { items = [] } }

pub is_cleared : cleared_slave.cleared ≡ true
unfolding cleared_slave exchanged_safely requested acted
is_cleared = refl

pub cleared_takes_none : judgement (points_of cleared_slave) None 1 0x7D empty_request ≡ Pass
unfolding cleared_slave exchanged_safely requested acted
cleared_takes_none = refl

-- after an empty request it stays cleared, and zeros are put out
pub none_stand_for_zeros : (requested 1 6 data_exchange [] (record cleared_slave { outputs = 0x12 ∷ 0x34 ∷ [] })).outputs ≡ 0 ∷ 0 ∷ []
unfolding cleared_slave exchanged_safely requested acted
none_stand_for_zeros = refl

pub none_leave_it_cleared : (requested 1 6 data_exchange [] cleared_slave).cleared ≡ true
unfolding cleared_slave exchanged_safely requested acted
none_leave_it_cleared = refl

-- after data it is no longer cleared
pub data_end_it : (requested 1 6 data_exchange (0x12 ∷ 0x34 ∷ []) cleared_slave).cleared ≡ false
unfolding cleared_slave exchanged_safely requested acted
data_end_it = refl

pub then_none_is_a_wrong_length : judgement (points_of (requested 1 6 data_exchange (0x12 ∷ 0x34 ∷ []) cleared_slave)) None 1 0x7D empty_request ≡ Refuse user_error Length
unfolding cleared_slave exchanged_safely requested acted
then_none_is_a_wrong_length = refl

-- a slave that isn't fail-safe isn't cleared
pub others_are_not_cleared : judgement (points_of (requested 1 5 global_control (0x02 ∷ 0x00 ∷ []) exchanged)) None 1 0x7D empty_request ≡ Refuse user_error Length
unfolding exchanged configured locked requested fed acted
others_are_not_cleared = refl

-- a good configuration of the same number leaves it cleared; a release doesn't
pub same_configuration_leaves_it_cleared : (requested 1 6 chk_cfg (0x21 ∷ 0x11 ∷ []) cleared_slave).cleared ≡ true
unfolding cleared_slave exchanged_safely requested acted
same_configuration_leaves_it_cleared = refl

pub release_ends_it : (released cleared_slave).cleared ≡ false
unfolding cleared_slave exchanged_safely requested acted released
release_ends_it = refl

-- without outputs an empty Data_Exchange has the whole length, and the slave is no longer cleared after it
abbrev pub failsafe_without_outputs : SlaveSpec
failsafe_without_outputs = record failsafe_5 { cfgs = record { items = record { items = 0x11 ∷ [] } ∷ [] } }

unfoldable pub cleared_without_outputs : SlaveRecord
cleared_without_outputs =
    requested 1 4 global_control (0x02 ∷ 0x00 ∷ [])
    (requested 1 3 chk_cfg (0x11 ∷ [])
    (requested 1 2 set_prm (0x88 ∷ 0x02 ∷ 0x05 ∷ 0x0B ∷ 0x80 ∷ 0xA1 ∷ 0x01 ∷ []) (starting_slave (1 ∷ []) failsafe_without_outputs)))

pub is_cleared_without_outputs : cleared_without_outputs.cleared ≡ true
unfolding cleared_without_outputs requested acted
is_cleared_without_outputs = refl

pub whole_length_of_none_ends_it : (requested 1 5 data_exchange [] cleared_without_outputs).cleared ≡ false
unfolding cleared_without_outputs requested acted
whole_length_of_none_ends_it = refl

-- after a lock it is no longer cleared, nor after time that releases the slave
pub lock_ends_it : (requested 1 6 set_prm (0x88 ∷ 0x02 ∷ 0x05 ∷ 0x0B ∷ 0x80 ∷ 0xA1 ∷ 0x01 ∷ []) cleared_slave).cleared ≡ false
unfolding cleared_slave exchanged_safely requested acted
lock_ends_it = refl

pub time_ends_it : (acted cleared_slave (ticks 10)).cleared ≡ false
unfolding cleared_slave exchanged_safely requested acted
time_ends_it = refl

-- in sync mode an empty Data_Exchange changes only the latest data
unfoldable pub cleared_in_sync : SlaveRecord
cleared_in_sync =
    requested 1 6 global_control (0x22 ∷ 0x00 ∷ [])
    (requested 1 5 data_exchange (0x12 ∷ 0x34 ∷ [])
    (requested 1 4 chk_cfg (0x21 ∷ 0x11 ∷ [])
    (requested 1 3 set_prm (0xA8 ∷ 0x02 ∷ 0x05 ∷ 0x0B ∷ 0x80 ∷ 0xA1 ∷ 0x01 ∷ []) (starting_slave (1 ∷ []) failsafe_5))))

pub outputs_stay_in_sync : (requested 1 7 data_exchange [] (record cleared_in_sync { outputs = 0x12 ∷ 0x34 ∷ []; latest = 0x56 ∷ 0x78 ∷ [] })).outputs ≡ 0x12 ∷ 0x34 ∷ []
unfolding cleared_in_sync requested acted
outputs_stay_in_sync = refl

pub latest_are_zeros_in_sync : (requested 1 7 data_exchange [] (record cleared_in_sync { outputs = 0x12 ∷ 0x34 ∷ []; latest = 0x56 ∷ 0x78 ∷ [] })).latest ≡ 0 ∷ 0 ∷ []
unfolding cleared_in_sync requested acted
latest_are_zeros_in_sync = refl

pub sync_goes_on : (requested 1 7 data_exchange [] cleared_in_sync).sync_mode ≡ true
unfolding cleared_in_sync requested acted
sync_goes_on = refl
