-- promise
-- The rules of Set_Prm and of Global_Control (IEC 61158-6-3, Set_Prm request and Global_Control request).
use Rattle.std.specs.Prelude.{◌==◌, ◌&&◌, ◌||◌, not, nat_lt, is_some, Bool, true, false, Option, Some, None}
use Rattle.judge_rules.specs.declared.bus.Bus.{Bus}
use Rattle.judge_rules.specs.declared.entry.Asked.{Asked}
use Rattle.judge_rules.specs.declared.entry.Asked.TheVariants as asks
use Rattle.judge_rules.specs.declared.entry.Control.{Control}
use Rattle.judge_rules.specs.declared.entry.Parameters.{Parameters}
use Rattle.judge_rules.specs.declared.entry.Request.{Request}
use Rattle.judge_rules.specs.declared.station.Station.{Station}
use Rattle.judge_rules.specs.Entries.{control_asked, is_none_selected, prm_asked}
use Rattle.judge_rules.specs.BringUpRules.{is_taken}

-- prm-of-other: Set_Prm to a slave that the last diagnosis showed as another master's
abbrev pub prm_of_other : Station → Request → Bool
prm_of_other station request = is_some (prm_asked request) && is_taken station.stage

-- prm-short: fewer than seven octets
abbrev pub is_short : Asked → Bool
is_short asks.Short = true
is_short other = false

abbrev pub has_short : Option Parameters → Bool
has_short None = false
has_short (Some parameters) = is_short parameters.asked

abbrev pub prm_short : Request → Bool
prm_short request = has_short (prm_asked request)

-- prm-reserved: bit 0, 1 or 2 of the first octet
abbrev pub has_reserved : Option Parameters → Bool
has_reserved None = false
has_reserved (Some parameters) = parameters.reserved

abbrev pub prm_reserved : Request → Bool
prm_reserved request = has_reserved (prm_asked request)

-- lock-and-unlock: Lock_Req and Unlock_Req
abbrev pub has_lock_and_unlock : Option Parameters → Bool
has_lock_and_unlock None = false
has_lock_and_unlock (Some parameters) = parameters.locks_and_unlocks

abbrev pub lock_and_unlock : Request → Bool
lock_and_unlock request = has_lock_and_unlock (prm_asked request)

-- watchdog-zero: WD_On with a factor 0, in a Set_Prm that has both factors
abbrev pub sets_watchdog_zero : Option Parameters → Bool
sets_watchdog_zero None = false
sets_watchdog_zero (Some parameters) = parameters.has_zero_factor && not (is_short parameters.asked)

abbrev pub watchdog_zero : Request → Bool
watchdog_zero request = sets_watchdog_zero (prm_asked request)

-- min-tsdr: a min TSDR of 1 to 10 bit times; 0 leaves it
abbrev pub has_low_min_tsdr : Option Parameters → Bool
has_low_min_tsdr None = false
has_low_min_tsdr (Some parameters) = not (parameters.min_tsdr == 0) && nat_lt parameters.min_tsdr 11

abbrev pub min_tsdr_low : Request → Bool
min_tsdr_low request = has_low_min_tsdr (prm_asked request)

-- group-not-set: the sender holds a slave, and each slave that it holds has none of the groups of Group_Select in its parameters
abbrev pub group_not_set : Request → Bool
group_not_set request = is_some (control_asked request) && is_none_selected request.answer

-- control-both: Freeze and Unfreeze, or Sync and Unsync
abbrev pub sets_both : Option Control → Bool
sets_both None = false
sets_both (Some control) = control.freeze && control.unfreeze || control.sync && control.unsync

abbrev pub control_both : Request → Bool
control_both request = sets_both (control_asked request)

-- control-reserved: bit 0, 6 or 7 of Control_Command
abbrev pub sets_reserved : Option Control → Bool
sets_reserved None = false
sets_reserved (Some control) = control.reserved

abbrev pub control_reserved : Request → Bool
control_reserved request = sets_reserved (control_asked request)

-- control-length: other than the two octets Control_Command and Group_Select
abbrev pub control_length : Request → Bool
control_length request = is_some (control_asked request) && not (request.payload.count == 2)

-- control-not-asked: Freeze without Unfreeze, though no Set_Prm that the master sent asked for it by Freeze_Req, or Sync without Unsync in the same way
abbrev pub sets_unasked : Bool → Bool → Option Control → Bool
sets_unasked freeze_asked sync_asked None = false
sets_unasked freeze_asked sync_asked (Some control) =
    control.freeze && not control.unfreeze && not freeze_asked || control.sync && not control.unsync && not sync_asked

abbrev pub control_not_asked : Bus → Request → Bool
control_not_asked bus request = sets_unasked bus.freeze_asked bus.sync_asked (control_asked request)
