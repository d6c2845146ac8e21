-- helper
-- Words for the laws of Data_Exchange and of the watchdog: what an earlier request to a station was (IEC 61158-6-3, Data_Exchange and Set_Prm
-- request).
use Rattle.std.specs.Prelude.{ℕ, ◌&&◌, ◌||◌, Bool, true, false, List}
use Rattle.std.specs.List.{count_by}
use Rattle.judge_rules.specs.declared.entry.Entry.{Entry}
use Rattle.judge_rules.specs.declared.entry.Request.{Request}
use Rattle.judge_rules.specs.Effects.{Effect, locks, releases, is_request_to}
use Rattle.judge_rules.specs.Entries.{diag_read, exchange_asked, is_dh, is_ue}
use Rattle.judge_rules.specs.Stations.{is_acknowledged_prm}

-- a Data_Exchange that was refused by UE
abbrev pub is_wrong_length : Request → Bool
is_wrong_length request = exchange_asked request && is_ue request.answer

-- a Data_Exchange that was answered with DH
abbrev pub announces_diagnosis : Request → Bool
announces_diagnosis request = exchange_asked request && is_dh request.answer

-- a Slave_Diag that was answered with a diagnosis or RR, or a Set_Prm that was acknowledged
abbrev pub ends_announcement : Request → Bool
ends_announcement request = diag_read request || is_acknowledged_prm request

-- the number of Data_Exchange to the station among these entries
abbrev pub exchanges_to : ℕ → List Entry → ℕ
exchanges_to address past = count_by (is_request_to exchange_asked address) past

-- a Set_Prm was acknowledged that locks or releases
abbrev pub sets_watchdog : Effect → Bool
sets_watchdog locks = true
sets_watchdog releases = true
sets_watchdog other = false
