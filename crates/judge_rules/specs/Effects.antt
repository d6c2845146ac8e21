-- helper
-- Words for the laws of the rules that depend on what lies before: what a request and its reply show of the station, and whether one of a list of
-- entries is of a kind (IEC 61158-6-3, bring-up of a slave).
use Rattle.std.specs.Prelude.{ℕ, ◌==◌, ◌&&◌, ◌||◌, not, is_some, if◌then◌else◌, Bool, true, false, List, Option, Some, None}
use Rattle.std.specs.List.{list_all}
use Rattle.judge_rules.specs.declared.entry.Answer.{Answer}
use Rattle.judge_rules.specs.declared.entry.Answer.TheVariants as answers
use Rattle.judge_rules.specs.declared.entry.Asked.{Asked}
use Rattle.judge_rules.specs.declared.entry.Asked.TheVariants as asks
use Rattle.judge_rules.specs.declared.entry.Diagnosis.{Diagnosis}
use Rattle.judge_rules.specs.declared.entry.Entry.{Entry}
use Rattle.judge_rules.specs.declared.entry.Entry.TheVariants as entries
use Rattle.judge_rules.specs.declared.entry.Parameters.{Parameters}
use Rattle.judge_rules.specs.declared.entry.Request.{Request}
use Rattle.judge_rules.specs.Entries.{chk_cfg_asked, diag_asked, exchange_asked, is_done, prm_asked}

-- a request to the station of an address that passes a test
abbrev pub is_request_to : (Request → Bool) → ℕ → Entry → Bool
is_request_to test address (entries.Request request) = request.address == address && test request
is_request_to test address other = false

-- none of these entries is one
abbrev pub have_none : (Request → Bool) → ℕ → List Entry → Bool
have_none test address past = list_all (λ entry. not (is_request_to test address entry)) past

-- what a request and its reply show of the station
pub data Effect : Type 0 where
  -- a Set_Prm with Lock_Req was acknowledged
  locks : Effect
  -- a Set_Prm with Unlock_Req, or one of fewer than seven octets, was acknowledged
  releases : Effect
  -- a Slave_Diag was answered with this diagnosis
  shows : Diagnosis → Effect
  -- a Chk_Cfg was acknowledged
  configures : Effect
  -- a Data_Exchange was answered with data
  exchanges : Effect
  -- a Data_Exchange was refused by RS
  refuses : Effect
  -- anything else, also whatever was answered as a repeat
  nothing : Effect

abbrev pub effect_of_prm : Asked → Answer → Effect
effect_of_prm asks.Lock answers.Done = locks
effect_of_prm asks.Unlock answers.Done = releases
effect_of_prm asks.Short answers.Done = releases
effect_of_prm asked answer = nothing

abbrev pub effect_of_diag : Answer → Effect
effect_of_diag (answers.Diagnosis diagnosis) = shows diagnosis
effect_of_diag other = nothing

abbrev pub effect_of_exchange : Answer → Effect
effect_of_exchange answers.Done = exchanges
effect_of_exchange answers.Dh = exchanges
effect_of_exchange answers.Rs = refuses
effect_of_exchange other = nothing

abbrev pub effect_of_other : Request → Effect
effect_of_other request =
    if diag_asked request then effect_of_diag request.answer
    else if chk_cfg_asked request then if is_done request.answer then configures else nothing
    else if exchange_asked request then effect_of_exchange request.answer
    else nothing

abbrev pub effect_by : Request → Option Parameters → Effect
effect_by request (Some parameters) = effect_of_prm parameters.asked request.answer
effect_by request None = effect_of_other request

abbrev pub effect : Request → Effect
effect request = effect_by request (prm_asked request)

-- a Set_Prm to one station, not answered as a repeat
abbrev pub asks_prm : Request → Bool
asks_prm request = is_some (prm_asked request)

-- the reply shows the state of the station, whatever was known before
abbrev pub shows_state : Effect → Bool
shows_state locks = true
shows_state releases = true
shows_state (shows diagnosis) = true
shows_state exchanges = true
shows_state other = false

-- a diagnosis shows another master
abbrev pub shows_other : Effect → Bool
shows_other (shows diagnosis) = diagnosis.is_of_other
shows_other other = false

-- a diagnosis shows no other master
abbrev pub shows_own : Effect → Bool
shows_own (shows diagnosis) = not diagnosis.is_of_other
shows_own other = false

-- the station has parameters of the master; it has none
abbrev pub gives_parameters : Effect → Bool
gives_parameters locks = true
gives_parameters exchanges = true
gives_parameters other = false

abbrev pub takes_parameters : Effect → Bool
takes_parameters releases = true
takes_parameters (shows diagnosis) = diagnosis.is_of_other || diagnosis.needs_parameters
takes_parameters other = false

-- the bring-up starts, with new parameters or with none, and the station is not another master's
abbrev pub starts : Effect → Bool
starts locks = true
starts releases = true
starts (shows diagnosis) = not diagnosis.is_of_other && diagnosis.needs_parameters
starts other = false

-- a Chk_Cfg was acknowledged, or a Data_Exchange answered with data, or a diagnosis shows another master
abbrev pub goes_on : Effect → Bool
goes_on configures = true
goes_on exchanges = true
goes_on (shows diagnosis) = diagnosis.is_of_other
goes_on other = false

-- a diagnosis shows that the station is ready, or that it is the master's own and is not
abbrev pub shows_ready : Effect → Bool
shows_ready (shows diagnosis) = not diagnosis.is_of_other && not diagnosis.needs_parameters && diagnosis.is_ready
shows_ready other = false

abbrev pub shows_unready : Effect → Bool
shows_unready (shows diagnosis) = not diagnosis.is_of_other && (diagnosis.needs_parameters || not diagnosis.is_ready)
shows_unready other = false

-- the bring-up starts again: with Set_Prm, after RS, or if a diagnosis shows another master or that parameters are missing
abbrev pub starts_again : Effect → Bool
starts_again locks = true
starts_again releases = true
starts_again refuses = true
starts_again (shows diagnosis) = diagnosis.is_of_other || diagnosis.needs_parameters
starts_again other = false

-- the same, or a diagnosis shows that the station is not ready
abbrev pub ends_readiness : Effect → Bool
ends_readiness effect = starts_again effect || shows_unready effect

abbrev pub is_refused : Effect → Bool
is_refused refuses = true
is_refused other = false

-- the station may have lost its parameters; it may have others than before
abbrev pub may_lose_parameters : Effect → Bool
may_lose_parameters effect = takes_parameters effect || is_refused effect

abbrev pub changes_parameters : Effect → Bool
changes_parameters effect = gives_parameters effect || may_lose_parameters effect

-- the reply shows the state of the station, or RS refuses a Data_Exchange
abbrev pub shows_or_refuses : Effect → Bool
shows_or_refuses effect = shows_state effect || is_refused effect

-- the bring-up goes on, or a diagnosis shows that the station is ready
abbrev pub goes_on_or_is_ready : Effect → Bool
goes_on_or_is_ready effect = goes_on effect || shows_ready effect

abbrev pub is_configured_by : Effect → Bool
is_configured_by configures = true
is_configured_by other = false

-- it shows anything
abbrev pub shows_any : Effect → Bool
shows_any nothing = false
shows_any other = true

-- these entries have no request to the station with such an effect
abbrev pub have_no_effect : (Effect → Bool) → ℕ → List Entry → Bool
have_no_effect test address past = have_none (λ request. test (effect request)) address past
