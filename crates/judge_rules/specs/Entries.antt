-- promise
-- What the rules read of an entry: which service a request asks one station for, and whether there was a reply.
use Rattle.std.specs.Prelude.{◌==◌, ◌&&◌, ◌||◌, not, is_some, if◌then◌else◌, Bool, true, false, Option, Some, None}
use Rattle.dp_telegram.specs.Access.{global_address}
use Rattle.dp_telegram.specs.FunctionCode.{asks_sdn, asks_srd}
use Rattle.judge_rules.specs.declared.entry.Answer.{Answer}
use Rattle.judge_rules.specs.declared.entry.Answer.TheVariants as answers
use Rattle.judge_rules.specs.declared.entry.Control.{Control}
use Rattle.judge_rules.specs.declared.entry.Diagnosis.{Diagnosis}
use Rattle.judge_rules.specs.declared.entry.Parameters.{Parameters}
use Rattle.judge_rules.specs.declared.entry.Request.{Request}
use Rattle.judge_rules.specs.declared.entry.Service.{Service}
use Rattle.judge_rules.specs.declared.entry.Service.TheVariants as services

-- there was a reply
abbrev pub is_answered : Answer → Bool
is_answered answers.Silence = false
is_answered answers.NoneSelected = false
is_answered other = true

-- the reply is that to the request before
abbrev pub is_repeat_answer : Answer → Bool
is_repeat_answer answers.Repeat = true
is_repeat_answer other = false

abbrev pub is_done : Answer → Bool
is_done answers.Done = true
is_done other = false

abbrev pub is_ue : Answer → Bool
is_ue answers.Ue = true
is_ue other = false

abbrev pub is_rs : Answer → Bool
is_rs answers.Rs = true
is_rs other = false

abbrev pub is_rr : Answer → Bool
is_rr answers.Rr = true
is_rr other = false

abbrev pub is_dh : Answer → Bool
is_dh answers.Dh = true
is_dh other = false

abbrev pub is_none_selected : Answer → Bool
is_none_selected answers.NoneSelected = true
is_none_selected other = false

-- what the reply to Slave_Diag says
abbrev pub diagnosis_in : Answer → Option Diagnosis
diagnosis_in (answers.Diagnosis diagnosis) = Some diagnosis
diagnosis_in other = None

abbrev pub is_data_exchange : Service → Bool
is_data_exchange services.DataExchange = true
is_data_exchange other = false

abbrev pub is_slave_diag : Service → Bool
is_slave_diag services.SlaveDiag = true
is_slave_diag other = false

abbrev pub is_chk_cfg : Service → Bool
is_chk_cfg services.ChkCfg = true
is_chk_cfg other = false

abbrev pub parameters_of : Service → Option Parameters
parameters_of (services.SetPrm parameters) = Some parameters
parameters_of other = None

abbrev pub is_srd : Request → Bool
is_srd request = asks_srd request.function

-- an SRD to one station; a repeat asks for nothing new
abbrev pub is_served : Request → Bool
is_served request = is_srd request && not (request.address == global_address) && not (is_repeat_answer request.answer)

abbrev pub exchange_asked : Request → Bool
exchange_asked request = is_served request && is_data_exchange request.service

-- a Data_Exchange that was answered with data, or by a short acknowledgement of a slave without inputs
abbrev pub is_exchanged : Request → Bool
is_exchanged request = exchange_asked request && (is_done request.answer || is_dh request.answer)

abbrev pub diag_asked : Request → Bool
diag_asked request = is_served request && is_slave_diag request.service

-- a Slave_Diag that was answered with a diagnosis, or with RR: the slave asks to wait
abbrev pub diag_read : Request → Bool
diag_read request = diag_asked request && (is_some (diagnosis_in request.answer) || is_rr request.answer)

abbrev pub chk_cfg_asked : Request → Bool
chk_cfg_asked request = is_served request && is_chk_cfg request.service

-- the parameters of a Set_Prm
abbrev pub prm_asked : Request → Option Parameters
prm_asked request = if is_served request then parameters_of request.service else None

-- the bits of a Global_Control, which is an SDN
abbrev pub control_in : Service → Option Control
control_in (services.GlobalControl control) = Some control
control_in other = None

abbrev pub control_asked : Request → Option Control
control_asked request = if asks_sdn request.function then control_in request.service else None
