-- promise
-- The order of the bring-up (IEC 61158-6-3, bring-up of a slave): Slave_Diag, Set_Prm, Chk_Cfg, Slave_Diag until the station is ready, and then
-- Data_Exchange; after RS, or if a diagnosis shows another master, the bring-up starts again with Slave_Diag.
use Rattle.std.specs.Prelude.{◌&&◌, not, is_some, Bool, true, false, Option, Some, None}
use Rattle.judge_rules.specs.declared.entry.Asked.{Asked}
use Rattle.judge_rules.specs.declared.entry.Asked.TheVariants as asks
use Rattle.judge_rules.specs.declared.entry.Parameters.{Parameters}
use Rattle.judge_rules.specs.declared.entry.Request.{Request}
use Rattle.judge_rules.specs.declared.stage.Stage.{Stage}
use Rattle.judge_rules.specs.declared.stage.Stage.TheVariants as stages
use Rattle.judge_rules.specs.declared.station.Station.{Station}
use Rattle.judge_rules.specs.Entries.{chk_cfg_asked, exchange_asked, prm_asked}
use Rattle.judge_rules.specs.Stages.{is_parametrized}

abbrev pub is_min_tsdr_alone : Asked → Bool
is_min_tsdr_alone asks.MinTsdr = true
is_min_tsdr_alone other = false

abbrev pub is_unseen : Stage → Bool
is_unseen stages.Unseen = true
is_unseen other = false

abbrev pub is_taken : Stage → Bool
is_taken stages.Taken = true
is_taken other = false

abbrev pub is_configured : Stage → Bool
is_configured stages.Configured = true
is_configured other = false

abbrev pub is_lost : Stage → Bool
is_lost stages.Lost = true
is_lost other = false

-- prm-before-diag: Set_Prm, though no Slave_Diag was answered
abbrev pub prm_before_diag : Station → Request → Bool
prm_before_diag station request = is_some (prm_asked request) && is_unseen station.stage

-- prm-without-lock: Set_Prm with neither Lock_Req nor Unlock_Req, which gives no parameters, to a station that has none
abbrev pub is_without_lock : Option Parameters → Bool
is_without_lock None = false
is_without_lock (Some parameters) = is_min_tsdr_alone parameters.asked

abbrev pub prm_without_lock : Station → Request → Bool
prm_without_lock station request = is_without_lock (prm_asked request) && not (is_parametrized station.stage)

-- cfg-before-prm: Chk_Cfg, though no Set_Prm was acknowledged since the station needed parameters
abbrev pub cfg_before_prm : Station → Request → Bool
cfg_before_prm station request = chk_cfg_asked request && not (is_parametrized station.stage)

-- exchange-before-ready: Data_Exchange, though no diagnosis said that the station is ready; the cases of the next three rules are not among these
abbrev pub is_before_ready : Stage → Bool
is_before_ready stages.Unseen = true
is_before_ready stages.Idle = true
is_before_ready stages.Parametrized = true
is_before_ready stages.NotReady = true
is_before_ready other = false

abbrev pub exchange_before_ready : Station → Request → Bool
exchange_before_ready station request = exchange_asked request && is_before_ready station.stage

-- exchange-without-diag: Data_Exchange after Chk_Cfg, with no Slave_Diag between them
abbrev pub exchange_without_diag : Station → Request → Bool
exchange_without_diag station request = exchange_asked request && is_configured station.stage

-- exchange-after-rs: Data_Exchange after one that was refused by RS, with no Slave_Diag or Set_Prm between them
abbrev pub exchange_after_rs : Station → Request → Bool
exchange_after_rs station request = exchange_asked request && is_lost station.stage

-- exchange-of-other: Data_Exchange after a diagnosis that shows another master
abbrev pub exchange_of_other : Station → Request → Bool
exchange_of_other station request = exchange_asked request && is_taken station.stage
