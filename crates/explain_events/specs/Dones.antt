-- detail
-- What a slave did by a request: the facts, by the point of the request (own).
use Rattle.std.specs.Prelude.{ℕ, ◌==◌, ◌&&◌, nat_lt, not, if◌then◌else◌, Bool, true, false, List, length, Option, Some, None}
use Rattle.std.specs.Option.{option_map_or}
use Rattle.dp_sap.specs.AccessTable.{same_point, data_exchange, global_control, slave_diag, set_prm, chk_cfg}
use Rattle.dp_prm.specs.Meaning.{unlock_req, lock_req, min_tsdr}
use Rattle.dp_cfg.specs.Choosing.{chosen}
use Rattle.dp_slave.specs.declared.view.SlaveView.{SlaveView}
use Rattle.dp_slave.specs.SlaveRecord.{configurations}
use Rattle.dp_slave.specs.Acts.{Control}
use Rattle.dp_slave.specs.Services.{control_of}
use Rattle.explain_events.specs.declared.done.CfgDone.{CfgDone}
use Rattle.explain_events.specs.declared.done.CfgDone.TheVariants as cfg_dones
use Rattle.explain_events.specs.declared.done.Controlled.{Controlled}
use Rattle.explain_events.specs.declared.done.Done.{Done}
use Rattle.explain_events.specs.declared.done.Done.TheVariants as dones
use Rattle.explain_events.specs.declared.done.ModeAct.{ModeAct}
use Rattle.explain_events.specs.declared.done.ModeAct.TheVariants as mode_acts
use Rattle.explain_events.specs.declared.done.PrmDone.{PrmDone}
use Rattle.explain_events.specs.declared.done.PrmDone.TheVariants as prm_dones
use Rattle.explain_events.specs.RequestsAtSlaves.{RequestAtSlaveView}
use Rattle.explain_events.specs.Services.{has_wrong_parameters, freeze_is_asked, sync_is_asked}

-- the master holds the slave
abbrev pub is_held_by : ℕ → Option ℕ → Bool
is_held_by master holder = option_map_or (λ other. other == master) holder false

-- ---- Set_Prm (IEC 61158-6-3, Set_Prm request)

-- a lock, with this octet for min TSDR; the sender may have held the slave before
abbrev pub lock_done : ℕ → SlaveView → ℕ → PrmDone
lock_done master slave tsdr =
    if is_held_by master slave.holder then prm_dones.LockedAgain slave.address master slave.since tsdr
    else prm_dones.Locked slave.address master tsdr

-- the least min TSDR is 11 bit times, and 0 leaves it unchanged
abbrev pub is_low_tsdr : ℕ → Bool
is_low_tsdr tsdr = not (tsdr == 0) && nat_lt tsdr 11

-- neither a lock nor an unlock: only min TSDR, which 0 leaves unchanged
abbrev pub min_tsdr_done : SlaveView → ℕ → PrmDone
min_tsdr_done slave octet =
    if octet == 0 then prm_dones.MinTsdrStays slave.address slave.holder slave.min_tsdr else prm_dones.MinTsdrSet slave.address slave.holder octet

-- right octets, in the order in which they are checked
abbrev pub right_prm_done : ℕ → SlaveView → List ℕ → PrmDone
right_prm_done master slave octets =
    if unlock_req octets then prm_dones.Unlocked slave.address slave.holder (lock_req octets)
    else if lock_req octets then lock_done master slave (min_tsdr octets)
    else min_tsdr_done slave (min_tsdr octets)

-- wrong octets release the slave
abbrev pub prm_done : RequestAtSlaveView → List ℕ → PrmDone
prm_done at_slave octets =
    if has_wrong_parameters octets at_slave.description then prm_dones.Wrong at_slave.slave.holder
    else right_prm_done at_slave.master at_slave.slave octets

-- ---- Chk_Cfg (IEC 61158-6-3, Chk_Cfg request)

-- by the number of the slave's configuration that was sent; another configuration releases the slave
abbrev pub cfg_done_by : SlaveView → Option ℕ → CfgDone
cfg_done_by slave None = cfg_dones.Wrong slave.holder
cfg_done_by slave (Some number) = cfg_dones.Good number slave.shape

abbrev pub cfg_done : RequestAtSlaveView → List ℕ → CfgDone
cfg_done at_slave octets = cfg_done_by at_slave.slave (chosen (configurations at_slave.description) octets)

-- ---- Data_Exchange (IEC 61158-6-3, Data_Exchange request)

-- data of the whole length, which wait for Sync in sync mode, or no data, which a cleared slave takes
abbrev pub exchange_done : SlaveView → List ℕ → Done
exchange_done slave octets =
    if not (length octets == length slave.outputs.items) then dones.NoOutputs
    else if slave.sync_mode then dones.OutputsWait
    else dones.OutputsTaken

-- ---- Global_Control (IEC 61158-6-3, Global_Control request)

-- Sync, or Freeze: whether it was sent, whether the command that ends it was sent too, and whether the parameters asked for it
abbrev pub mode_act : Bool → Bool → Bool → ModeAct
mode_act false ends asked = mode_acts.NotSent
mode_act true true asked = mode_acts.BesideItsEnd
mode_act true false false = mode_acts.NotAskedFor
mode_act true false true = mode_acts.Acts

abbrev pub controlled_by : SlaveView → Control → Controlled
controlled_by slave control = record {
  clears = control.clear_data;
  unsyncs = control.unsync;
  sync = mode_act control.sync control.unsync (sync_is_asked slave.prm);
  unfreezes = control.unfreeze;
  freeze = mode_act control.freeze control.unfreeze (freeze_is_asked slave.prm);
}

-- ---- by the point of the request

abbrev pub done_by : RequestAtSlaveView → Option ℕ → List ℕ → Done
done_by at_slave point octets =
    if same_point point data_exchange then exchange_done at_slave.slave octets
    else if same_point point global_control then dones.Control (controlled_by at_slave.slave (control_of octets))
    else if same_point point slave_diag then dones.Diagnosis (is_held_by at_slave.master at_slave.slave.holder)
    else if same_point point set_prm then dones.Parameters (prm_done at_slave octets)
    else if same_point point chk_cfg then dones.Configuration (cfg_done at_slave octets)
    else dones.Other

abbrev pub done_of : RequestAtSlaveView → Done
done_of at_slave = done_by at_slave at_slave.parts.dsap at_slave.parts.payload.items
