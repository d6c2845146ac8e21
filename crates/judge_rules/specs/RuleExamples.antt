-- helper
-- Examples of masters, and the rules that their last entry breaks. Each holds by computation.
use Rattle.std.specs.Prelude.{◌≡◌, ℕ, Bool, true, false, List, [], ◌∷◌, ◌++◌, None, Some, refl}
use Rattle.dp_telegram.specs.declared.function_code.Function.TheVariants.{SdnHigh, SrdHigh}
use Rattle.judge_rules.specs.declared.entry.Answer.{Answer}
use Rattle.judge_rules.specs.declared.entry.Answer.TheVariants as answers
use Rattle.judge_rules.specs.declared.entry.Asked.TheVariants as asks
use Rattle.judge_rules.specs.declared.entry.Payload.{Payload}
use Rattle.judge_rules.specs.declared.entry.Diagnosis.{Diagnosis}
use Rattle.judge_rules.specs.declared.entry.Entry.{Entry}
use Rattle.judge_rules.specs.declared.entry.Entry.TheVariants as entries
use Rattle.judge_rules.specs.declared.entry.Service.{Service}
use Rattle.judge_rules.specs.declared.entry.Service.TheVariants as services
use Rattle.judge_rules.specs.declared.rule.JudgeRule.TheVariants as rules
use Rattle.judge_rules.specs.Before.{srd_before}
use Rattle.judge_rules.specs.Rules.{broken_rules}

abbrev pub no_payload : Payload
no_payload = record { count = 0; is_zero = true; has_points = false }

-- an SRD to slave 5 at this time, with FCV 0 and FCB 1, and one with FCV 1; the octet stands for the telegram
abbrev pub first_srd_at : ℕ → ℕ → Service → Answer → Entry
first_srd_at time octet service answer =
    entries.Request (record { address = 5; function = SrdHigh; fcb = true; fcv = false; service = service; ssap = Some 62; payload = no_payload; octets = record { items = octet ∷ [] }; time = time; answer = answer })

abbrev pub srd_at : ℕ → Bool → ℕ → Service → Answer → Entry
srd_at time fcb octet service answer =
    entries.Request (record { address = 5; function = SrdHigh; fcb = fcb; fcv = true; service = service; ssap = Some 62; payload = no_payload; octets = record { items = octet ∷ [] }; time = time; answer = answer })

-- the same before any tick
abbrev pub first_srd : ℕ → Service → Answer → Entry
first_srd octet service answer = first_srd_at 0 octet service answer

abbrev pub srd : Bool → ℕ → Service → Answer → Entry
srd fcb octet service answer = srd_at 0 fcb octet service answer

abbrev pub free : Diagnosis
free = record { is_of_other = false; needs_parameters = true; is_ready = false }

abbrev pub ready : Diagnosis
ready = record { is_of_other = false; needs_parameters = false; is_ready = true }

abbrev pub of_other : Diagnosis
of_other = record { is_of_other = true; needs_parameters = false; is_ready = true }

abbrev pub set_prm : Service
set_prm = services.SetPrm (record { asked = asks.Lock; min_tsdr = 11; watchdog = None; has_zero_factor = false; freeze = false; sync = false; locks_and_unlocks = false; reserved = false })

-- a master that brings slave 5 up: its entries up to the diagnosis that says that the slave is ready
abbrev pub diagnosed : List Entry
diagnosed = first_srd 1 services.SlaveDiag (answers.Diagnosis free) ∷ []

abbrev pub parametrized : List Entry
parametrized = first_srd 1 services.SlaveDiag (answers.Diagnosis free) ∷ srd false 2 set_prm answers.Done ∷ []

abbrev pub configured : List Entry
configured =
    first_srd 1 services.SlaveDiag (answers.Diagnosis free) ∷ srd false 2 set_prm answers.Done ∷ srd true 3 services.ChkCfg answers.Done ∷ []

abbrev pub brought_up : List Entry
brought_up =
    first_srd 1 services.SlaveDiag (answers.Diagnosis free) ∷ srd false 2 set_prm answers.Done ∷ srd true 3 services.ChkCfg answers.Done
    ∷ srd false 1 services.SlaveDiag (answers.Diagnosis ready) ∷ []

-- it breaks no rule
pub the_first_is_right : broken_rules 3 [] (first_srd 1 services.SlaveDiag (answers.Diagnosis free)) ≡ []
the_first_is_right = refl

pub set_prm_is_right : broken_rules 3 diagnosed (srd false 2 set_prm answers.Done) ≡ []
set_prm_is_right = refl

pub chk_cfg_is_right : broken_rules 3 parametrized (srd true 3 services.ChkCfg answers.Done) ≡ []
chk_cfg_is_right = refl

pub exchange_is_right : broken_rules 3 brought_up (srd true 4 services.DataExchange answers.Done) ≡ []
exchange_is_right = refl

-- the frame count bit
pub fcv_at_first : broken_rules 3 [] (srd true 1 services.SlaveDiag (answers.Diagnosis free)) ≡ rules.FcbFirst ∷ []
fcv_at_first = refl

pub same_fcb_again : broken_rules 3 brought_up (srd false 4 services.DataExchange answers.Repeat) ≡ rules.FcbRepeated ∷ []
same_fcb_again = refl

pub it_is_shown_with_the_one_before : srd_before brought_up (srd false 4 services.DataExchange answers.Repeat) ≡ Some (1 ∷ [])
it_is_shown_with_the_one_before = refl

pub same_telegram_again : broken_rules 3 brought_up (srd false 1 services.SlaveDiag answers.Repeat) ≡ rules.FcbNotAlternated ∷ []
same_telegram_again = refl

-- the order of the bring-up
pub no_diag_before_set_prm : broken_rules 3 [] (first_srd 2 set_prm answers.Done) ≡ rules.PrmBeforeDiag ∷ []
no_diag_before_set_prm = refl

pub no_prm_before_chk_cfg : broken_rules 3 diagnosed (srd false 3 services.ChkCfg answers.Rs) ≡ rules.CfgBeforePrm ∷ []
no_prm_before_chk_cfg = refl

pub exchange_too_early : broken_rules 3 parametrized (srd true 4 services.DataExchange answers.Rs) ≡ rules.ExchangeBeforeReady ∷ []
exchange_too_early = refl

pub no_diag_after_chk_cfg : broken_rules 3 configured (srd false 4 services.DataExchange answers.Done) ≡ rules.ExchangeWithoutDiag ∷ []
no_diag_after_chk_cfg = refl

-- a slave of another master
pub prm_of_another : broken_rules 3 (first_srd 1 services.SlaveDiag (answers.Diagnosis of_other) ∷ []) (srd false 2 set_prm answers.Rs) ≡ rules.PrmOfOther ∷ []
prm_of_another = refl

-- four stray octets among a hundred entries
pub three_strays_are_few : broken_rules 3 (entries.Stray ∷ entries.Stray ∷ []) entries.Stray ≡ []
three_strays_are_few = refl

pub four_strays_are_many : broken_rules 3 (entries.Stray ∷ entries.Stray ∷ entries.Stray ∷ []) entries.Stray ≡ rules.NoRequest ∷ []
four_strays_are_many = refl

-- a token that is passed on is no entry of the hundred
pub token_is_passed_on : broken_rules 3 (entries.Stray ∷ entries.Stray ∷ entries.Stray ∷ []) (entries.PassedToken 2) ≡ []
token_is_passed_on = refl

-- a token to a station that answered a request is one to a slave
pub token_to_a_slave : broken_rules 3 diagnosed (entries.PassedToken 5) ≡ rules.TokenToSlave ∷ []
token_to_a_slave = refl

pub token_to_a_silent_station : broken_rules 3 (first_srd 1 services.SlaveDiag answers.Silence ∷ []) (entries.PassedToken 5) ≡ []
token_to_a_silent_station = refl

pub strays_and_a_token : broken_rules 3 (entries.Stray ∷ (entries.PassedToken 2) ∷ entries.Stray ∷ []) entries.Stray ≡ []
strays_and_a_token = refl

-- retries: with FCV 1 after any time, with FCV 0 only at the same time, and before the token is passed on
pub no_retry_is_allowed : broken_rules 0 (brought_up ++ srd true 4 services.DataExchange answers.Silence ∷ []) (srd true 4 services.DataExchange answers.Done) ≡ rules.RetryLimit ∷ []
no_retry_is_allowed = refl

pub retry_later : broken_rules 0 (brought_up ++ srd true 4 services.DataExchange answers.Silence ∷ []) (srd_at 100 true 4 services.DataExchange answers.Done) ≡ rules.RetryLimit ∷ []
retry_later = refl

pub retry_after_a_token :
    broken_rules 0 (brought_up ++ srd true 4 services.DataExchange answers.Silence ∷ (entries.PassedToken 2) ∷ []) (srd true 4 services.DataExchange answers.Done)
    ≡ rules.RetryLimit ∷ []
retry_after_a_token = refl

pub poll_of_an_absent_slave : broken_rules 0 (first_srd 1 services.SlaveDiag answers.Silence ∷ []) (first_srd 1 services.SlaveDiag answers.Silence) ≡ rules.RetryLimit ∷ []
poll_of_an_absent_slave = refl

pub poll_later : broken_rules 0 (first_srd 1 services.SlaveDiag answers.Silence ∷ []) (first_srd_at 1 1 services.SlaveDiag answers.Silence) ≡ []
poll_later = refl

pub poll_after_a_token :
    broken_rules 0 (first_srd 1 services.SlaveDiag answers.Silence ∷ (entries.PassedToken 2) ∷ []) (first_srd 1 services.SlaveDiag answers.Silence) ≡ []
poll_after_a_token = refl

-- a watchdog of 100 ms: the gap before the request counts, whatever the answer, and counts once
abbrev pub watched : List Entry
watched =
    first_srd 1 services.SlaveDiag (answers.Diagnosis free)
    ∷ srd false 2 (services.SetPrm (record { asked = asks.Lock; min_tsdr = 11; watchdog = Some 10; has_zero_factor = false; freeze = false; sync = false; locks_and_unlocks = false; reserved = false })) answers.Done
    ∷ srd true 3 services.ChkCfg answers.Done ∷ srd false 1 services.SlaveDiag (answers.Diagnosis ready) ∷ []

pub gap_of_90_ms : broken_rules 3 watched (srd_at 9 true 4 services.DataExchange answers.Done) ≡ []
gap_of_90_ms = refl

pub gap_of_100_ms : broken_rules 3 watched (srd_at 10 true 4 services.DataExchange answers.Done) ≡ rules.WatchdogShort ∷ []
gap_of_100_ms = refl

pub slave_lost_in_a_gap : broken_rules 3 watched (srd_at 10 true 4 services.DataExchange answers.Rs) ≡ rules.WatchdogShort ∷ []
slave_lost_in_a_gap = refl

pub request_after_a_gap :
    broken_rules 3 (watched ++ srd_at 10 true 4 services.DataExchange answers.Done ∷ []) (srd_at 19 false 4 services.DataExchange answers.Done) ≡ []
request_after_a_gap = refl

pub gap_without_a_watchdog : broken_rules 3 brought_up (srd_at 1000 true 4 services.DataExchange answers.Done) ≡ []
gap_without_a_watchdog = refl

-- a wrong length, twice since Set_Prm, also with right exchanges between
pub wrong_length : broken_rules 3 brought_up (srd true 4 services.DataExchange answers.Ue) ≡ []
wrong_length = refl

pub wrong_length_again :
    broken_rules 3 (brought_up ++ srd true 4 services.DataExchange answers.Ue ∷ srd false 5 services.DataExchange answers.Done ∷ [])
    (srd true 4 services.DataExchange answers.Ue)
    ≡ rules.LengthRepeated ∷ []
wrong_length_again = refl

pub wrong_length_after_set_prm :
    broken_rules 3
    (brought_up ++ srd true 4 services.DataExchange answers.Ue ∷ srd false 2 set_prm answers.Done ∷ srd true 3 services.ChkCfg answers.Done
    ∷ srd false 1 services.SlaveDiag (answers.Diagnosis ready) ∷ [])
    (srd true 4 services.DataExchange answers.Ue)
    ≡ []
wrong_length_after_set_prm = refl

-- outputs that look like access points, and a Slave_Diag without bit 7 of DA and SA, which are the same octets; Chk_Cfg without it has other ones
abbrev pub points_payload : ℕ → Payload
points_payload count = record { count = count; is_zero = false; has_points = true }

abbrev pub exchange_of_points : Bool → ℕ → Answer → Entry
exchange_of_points fcb count answer =
    entries.Request (record { address = 5; function = SrdHigh; fcb = fcb; fcv = true; service = services.DataExchange; ssap = None; payload = points_payload count; octets = record { items = 4 ∷ [] }; time = 0; answer = answer })

pub outputs_like_points : broken_rules 3 brought_up (exchange_of_points true 2 answers.Done) ≡ []
outputs_like_points = refl

pub outputs_like_points_to_a_lost_slave :
    broken_rules 3 (brought_up ++ exchange_of_points true 2 answers.Done ∷ []) (exchange_of_points false 2 answers.Rs) ≡ []
outputs_like_points_to_a_lost_slave = refl

pub slave_diag_without_bit_7 :
    broken_rules 3 diagnosed (exchange_of_points false 2 answers.Rs) ≡ rules.ExchangeBeforeReady ∷ rules.ExtensionMissing ∷ []
slave_diag_without_bit_7 = refl

pub chk_cfg_without_bit_7 : broken_rules 3 brought_up (exchange_of_points true 4 answers.Ue) ≡ rules.ExtensionMissing ∷ []
chk_cfg_without_bit_7 = refl

-- points: those that DP-V0 has are known, also without a slave that has them
pub master_to_master : broken_rules 3 diagnosed (srd false 6 services.MasterToMaster answers.Rs) ≡ []
master_to_master = refl

pub set_slave_add : broken_rules 3 diagnosed (srd false 6 services.SetSlaveAdd answers.Rs) ≡ []
set_slave_add = refl

pub point_of_dp_v1 : broken_rules 3 diagnosed (srd false 6 services.Unknown answers.Rs) ≡ rules.UnknownPoint ∷ []
point_of_dp_v1 = refl

-- another telegram with the FCB of one that was not answered is right: the slave has not taken it
pub fcb_of_a_lost_telegram :
    broken_rules 3 (brought_up ++ srd true 4 services.DataExchange answers.Silence ∷ []) (srd true 1 services.SlaveDiag (answers.Diagnosis ready)) ≡ []
fcb_of_a_lost_telegram = refl

-- a diagnosis that the slave asks to wait for, after DH, is read as soon as it can be
pub diagnosis_is_busy :
    broken_rules 3
    (brought_up ++ srd true 4 services.DataExchange answers.Dh ∷ srd false 4 services.DataExchange answers.Dh ∷ srd true 1 services.SlaveDiag answers.Rr
    ∷ srd false 4 services.DataExchange answers.Dh ∷ srd true 4 services.DataExchange answers.Dh ∷ [])
    (srd false 4 services.DataExchange answers.Dh)
    ≡ []
diagnosis_is_busy = refl

-- a Global_Control to all stations restarts the watchdog
abbrev pub control_at : ℕ → Entry
control_at time =
    entries.Request (record { address = 127; function = SdnHigh; fcb = false; fcv = false; service = services.GlobalControl (record { clear = false; unfreeze = false; freeze = false; unsync = false; sync = false; reserved = false; is_to_all_groups = true }); ssap = Some 62; payload = no_payload; octets = record { items = 9 ∷ [] }; time = time; answer = answers.Silence })

pub control_ends_a_gap : broken_rules 3 (watched ++ control_at 5 ∷ []) (srd_at 14 true 4 services.DataExchange answers.Done) ≡ []
control_ends_a_gap = refl

pub gap_after_a_control : broken_rules 3 (watched ++ control_at 5 ∷ []) (srd_at 15 true 4 services.DataExchange answers.Done) ≡ rules.WatchdogShort ∷ []
gap_after_a_control = refl
