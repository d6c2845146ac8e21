-- promise
-- How far a master has brought up a station (IEC 61158-6-3, bring-up of a slave): what a request and its reply leave of the stage (own in detail).
use Rattle.std.specs.Prelude.{◌&&◌, if◌then◌else◌, Bool, true, false, Option, Some, None}
use Rattle.judge_rules.specs.declared.entry.Answer.{Answer}
use Rattle.judge_rules.specs.declared.entry.Answer.TheVariants as answers
use Rattle.judge_rules.specs.declared.entry.Asked.{Asked}
use Rattle.judge_rules.specs.declared.entry.Asked.TheVariants as asks
use Rattle.judge_rules.specs.declared.entry.Diagnosis.{Diagnosis}
use Rattle.judge_rules.specs.declared.entry.Parameters.{Parameters}
use Rattle.judge_rules.specs.declared.entry.Request.{Request}
use Rattle.judge_rules.specs.declared.stage.Stage.{Stage}
use Rattle.judge_rules.specs.declared.stage.Stage.TheVariants as stages
use Rattle.judge_rules.specs.Entries.{is_done, diagnosis_in, prm_asked, diag_asked, chk_cfg_asked, exchange_asked}

-- Set_Prm was acknowledged, and nothing has shown since that the station lost the parameters
abbrev pub is_parametrized : Stage → Bool
is_parametrized stages.Unseen = false
is_parametrized stages.Idle = false
is_parametrized stages.Taken = false
is_parametrized stages.Lost = false
is_parametrized other = true

-- Set_Prm: one that was acknowledged locks or releases the station
abbrev pub after_acknowledged : Stage → Asked → Stage
after_acknowledged stage asks.Lock = stages.Parametrized
after_acknowledged stage asks.Unlock = stages.Idle
after_acknowledged stage asks.MinTsdr = stage
after_acknowledged stage asks.Short = stages.Idle

abbrev pub after_prm : Stage → Asked → Answer → Stage
after_prm stage asked answer = if is_done answer then after_acknowledged stage asked else stage

-- Slave_Diag: the station is another master's, or needs parameters; else what it says goes on with the bring-up
abbrev pub shown_ready : Stage → Stage
shown_ready stages.Unseen = stages.Idle
shown_ready stages.Idle = stages.Idle
shown_ready stages.Taken = stages.Idle
shown_ready stages.Parametrized = stages.Parametrized
shown_ready stages.Configured = stages.Ready
shown_ready stages.NotReady = stages.Ready
shown_ready stages.Ready = stages.Ready
shown_ready stages.Exchanging = stages.Exchanging
shown_ready stages.Lost = stages.Idle

abbrev pub shown_unready : Stage → Stage
shown_unready stages.Unseen = stages.Idle
shown_unready stages.Idle = stages.Idle
shown_unready stages.Taken = stages.Idle
shown_unready stages.Parametrized = stages.Parametrized
shown_unready stages.Configured = stages.NotReady
shown_unready stages.NotReady = stages.NotReady
shown_unready stages.Ready = stages.NotReady
shown_unready stages.Exchanging = stages.NotReady
shown_unready stages.Lost = stages.Idle

abbrev pub shown_by : Stage → Diagnosis → Stage
shown_by stage diagnosis =
    if diagnosis.is_of_other then stages.Taken
    else if diagnosis.needs_parameters then stages.Idle
    else if diagnosis.is_ready then shown_ready stage
    else shown_unready stage

abbrev pub shown_by_any : Stage → Option Diagnosis → Stage
shown_by_any stage (Some diagnosis) = shown_by stage diagnosis
shown_by_any stage None = stage

abbrev pub after_diag : Stage → Answer → Stage
after_diag stage answer = shown_by_any stage (diagnosis_in answer)

-- Chk_Cfg: one that was acknowledged counts only after the parameters
abbrev pub after_chk_cfg : Stage → Answer → Stage
after_chk_cfg stage answer = if is_done answer && is_parametrized stage then stages.Configured else stage

-- Data_Exchange: RS shows that a station which was brought up is lost; before, it says nothing new
abbrev pub refused : Stage → Stage
refused stages.Configured = stages.Lost
refused stages.Ready = stages.Lost
refused stages.Exchanging = stages.Lost
refused other = other

abbrev pub after_exchange : Stage → Answer → Stage
after_exchange stage answers.Done = stages.Exchanging
after_exchange stage answers.Dh = stages.Exchanging
after_exchange stage answers.Rs = refused stage
after_exchange stage other = stage

-- every other request leaves the stage
abbrev pub after_other : Stage → Request → Stage
after_other stage request =
    if diag_asked request then after_diag stage request.answer
    else if chk_cfg_asked request then after_chk_cfg stage request.answer
    else if exchange_asked request then after_exchange stage request.answer
    else stage

abbrev pub after_service : Stage → Request → Option Parameters → Stage
after_service stage request (Some parameters) = after_prm stage parameters.asked request.answer
after_service stage request None = after_other stage request

-- the stage after a request to the station
abbrev pub stage_after : Stage → Request → Stage
stage_after stage request = after_service stage request (prm_asked request)
