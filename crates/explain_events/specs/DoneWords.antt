-- detail
-- The result of a service that was done, in one sentence (own).
use Rattle.std.specs.Prelude.{codes, ℕ, ◌==◌, if◌then◌else◌, Bool, true, false, List, [], ◌++◌, Option, Some, None}
use Rattle.std.specs.Fmt.{decimal}
use Rattle.dp_slave.specs.SlaveRecord.{configurations}
use Rattle.explain_events.specs.declared.done.CfgDone.{CfgDone}
use Rattle.explain_events.specs.declared.done.CfgDone.TheVariants as cfg_dones
use Rattle.explain_events.specs.declared.done.Controlled.{Controlled}
use Rattle.explain_events.specs.declared.done.Done.{Done}
use Rattle.explain_events.specs.declared.done.Done.TheVariants as dones
use Rattle.explain_events.specs.declared.done.ModeAct.{ModeAct}
use Rattle.explain_events.specs.declared.done.ModeAct.TheVariants as mode_acts
use Rattle.explain_events.specs.declared.done.PrmDone.{PrmDone}
use Rattle.explain_events.specs.declared.done.PrmDone.TheVariants as prm_dones
use Rattle.explain_events.specs.Dones.{done_of, is_low_tsdr}
use Rattle.explain_events.specs.RequestsAtSlaves.{RequestAtSlaveView}
use Rattle.explain_events.specs.Services.{acts_words, prm_faults, wrong_cfg_text, wrong_prm_text}
use Rattle.explain_events.specs.Words.{since_words}

-- ---- Set_Prm

abbrev pub held_words : ℕ → ℕ → List ℕ
held_words master address = codes "master " ++ decimal master ++ codes " holds slave " ++ decimal address

-- what else is to be said of min TSDR
abbrev pub low_tsdr_words : ℕ → List ℕ
low_tsdr_words octet = if is_low_tsdr octet then codes " Min TSDR is below 11." else []

abbrev pub beside_unlock_words : Bool → List ℕ
beside_unlock_words true = codes " Lock_Req does nothing beside Unlock_Req."
beside_unlock_words false = []

abbrev pub without_lock_words : Option ℕ → List ℕ
without_lock_words None = codes " Lock_Req is missing: nobody holds the slave."
without_lock_words (Some holder) = []

abbrev pub unlocked_text : ℕ → Option ℕ → List ℕ
unlocked_text address None = codes "unlocked: nobody held slave " ++ decimal address ++ codes "."
unlocked_text address (Some holder) = codes "unlocked: slave " ++ decimal address ++ codes " is released."

abbrev pub locked_again_text : ℕ → ℕ → ℕ → List ℕ
locked_again_text address master since = codes "locked again: " ++ held_words master address ++ since_words since

abbrev pub prm_done_text : RequestAtSlaveView → PrmDone → List ℕ
prm_done_text at_slave (prm_dones.Wrong released) = wrong_prm_text released (prm_faults at_slave.parts.payload.items at_slave.description)
prm_done_text at_slave (prm_dones.Unlocked address holder locks) = unlocked_text address holder ++ beside_unlock_words locks
prm_done_text at_slave (prm_dones.Locked address master tsdr) =
    codes "locked: " ++ held_words master address ++ codes "." ++ low_tsdr_words tsdr
prm_done_text at_slave (prm_dones.LockedAgain address master since tsdr) =
    locked_again_text address master since ++ low_tsdr_words tsdr
prm_done_text at_slave (prm_dones.MinTsdrSet address holder tsdr) =
    codes "done: min TSDR is " ++ decimal tsdr ++ codes "." ++ without_lock_words holder ++ low_tsdr_words tsdr
prm_done_text at_slave (prm_dones.MinTsdrStays address holder tsdr) =
    codes "done: min TSDR stays " ++ decimal tsdr ++ codes "." ++ without_lock_words holder

-- ---- Chk_Cfg

abbrev pub good_cfg_text : ℕ → ℕ → List ℕ
good_cfg_text number before =
    if number == before then codes "good configuration: number " ++ decimal number ++ codes "."
    else codes "good configuration: number " ++ decimal number ++ codes " in place of " ++ decimal before ++ codes "."

abbrev pub cfg_done_text : RequestAtSlaveView → CfgDone → List ℕ
cfg_done_text at_slave (cfg_dones.Wrong released) = wrong_cfg_text released at_slave.parts.payload.items (configurations at_slave.description)
cfg_done_text at_slave (cfg_dones.Good number before) = good_cfg_text number before

-- ---- Global_Control

abbrev pub is_act : ModeAct → Bool
is_act mode_acts.Acts = true
is_act other = false

-- the reason why a Sync does nothing
abbrev pub idle_sync_words : ModeAct → List ℕ
idle_sync_words mode_acts.BesideItsEnd = codes " Sync does nothing beside Unsync."
idle_sync_words mode_acts.NotAskedFor = codes " Sync does nothing without Sync_Req."
idle_sync_words other = []

-- the reason why a Freeze does nothing
abbrev pub idle_freeze_words : ModeAct → List ℕ
idle_freeze_words mode_acts.BesideItsEnd = codes " Freeze does nothing beside Unfreeze."
idle_freeze_words mode_acts.NotAskedFor = codes " Freeze does nothing without Freeze_Req."
idle_freeze_words other = []

-- the actions that are done, and what was requested and isn't done
abbrev pub controlled_text : Controlled → List ℕ
controlled_text c =
    codes "done: " ++ acts_words c.clears c.unsyncs (is_act c.sync) c.unfreezes (is_act c.freeze) ++ codes "." ++ idle_sync_words c.sync
    ++ idle_freeze_words c.freeze

-- ---- any service

abbrev pub diagnosis_text : Bool → List ℕ
diagnosis_text true = codes "done: read by the holder."
diagnosis_text false = codes "done."

abbrev pub done_words : RequestAtSlaveView → Done → List ℕ
done_words at_slave dones.OutputsTaken = codes "done."
done_words at_slave dones.OutputsWait = codes "done: the data wait for Sync."
done_words at_slave dones.NoOutputs = codes "done: no data, for zeros; the slave stays cleared."
done_words at_slave (dones.Diagnosis by_holder) = diagnosis_text by_holder
done_words at_slave (dones.Control controlled) = controlled_text controlled
done_words at_slave (dones.Parameters done) = prm_done_text at_slave done
done_words at_slave (dones.Configuration done) = cfg_done_text at_slave done
done_words at_slave dones.Other = codes "done."

abbrev pub done_text : RequestAtSlaveView → List ℕ
done_text at_slave = done_words at_slave (done_of at_slave)
