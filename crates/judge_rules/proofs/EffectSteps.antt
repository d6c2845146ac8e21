-- What a request shows of the station is all that its stage depends on.
use Rattle.std.proofs.Common.{◌≡◌, Bool, true, false, Option, Some, None, refl}
use Rattle.std.specs.Prelude.{◌&&◌, if◌then◌else◌}
use Rattle.judge_rules.specs.declared.entry.Answer.{Answer}
use Rattle.judge_rules.specs.declared.entry.Answer.TheVariants as answers
use Rattle.judge_rules.specs.declared.entry.Asked.{Asked}
use Rattle.judge_rules.specs.declared.entry.Asked.TheVariants as asks
use Rattle.judge_rules.specs.declared.entry.Parameters.{Parameters}
use Rattle.judge_rules.specs.declared.entry.Request.{Request}
use Rattle.judge_rules.specs.declared.stage.Stage.{Stage}
use Rattle.judge_rules.specs.declared.stage.Stage.TheVariants as stages
use Rattle.judge_rules.specs.Effects.{Effect, locks, releases, shows, configures, exchanges, refuses, nothing, effect, effect_by, effect_of_diag, effect_of_exchange, effect_of_prm}
use Rattle.judge_rules.specs.Entries.{chk_cfg_asked, diag_asked, exchange_asked, is_done, prm_asked}
use Rattle.judge_rules.specs.Stages.{after_chk_cfg, after_diag, after_exchange, after_prm, after_service, is_parametrized, refused, shown_by, stage_after}

abbrev pub after_effect : Stage → Effect → Stage
after_effect stage locks = stages.Parametrized
after_effect stage releases = stages.Idle
after_effect stage (shows diagnosis) = shown_by stage diagnosis
after_effect stage configures = if is_parametrized stage then stages.Configured else stage
after_effect stage exchanges = stages.Exchanging
after_effect stage refuses = refused stage
after_effect stage nothing = stage

prm_agrees : (stage : Stage) (asked : Asked) (answer : Answer) → after_prm stage asked answer ≡ after_effect stage (effect_of_prm asked answer)
prm_agrees stage asks.Lock answers.Done = refl
prm_agrees stage asks.Unlock answers.Done = refl
prm_agrees stage asks.Short answers.Done = refl
prm_agrees stage asks.MinTsdr answers.Done = refl
prm_agrees stage asked answer = refl

diag_agrees : (stage : Stage) (answer : Answer) → after_diag stage answer ≡ after_effect stage (effect_of_diag answer)
diag_agrees stage (answers.Diagnosis diagnosis) = refl
diag_agrees stage other = refl

chk_cfg_agrees : (stage : Stage) (done : Bool) → (if done && is_parametrized stage then stages.Configured else stage) ≡ after_effect stage (if done then configures else nothing)
chk_cfg_agrees stage true = refl
chk_cfg_agrees stage false = refl

exchange_agrees : (stage : Stage) (answer : Answer) → after_exchange stage answer ≡ after_effect stage (effect_of_exchange answer)
exchange_agrees stage answers.Done = refl
exchange_agrees stage answers.Dh = refl
exchange_agrees stage answers.Rs = refl
exchange_agrees stage other = refl

others_agree : (stage : Stage) (answer : Answer) (diag chk exchange : Bool)
    → (if diag then after_diag stage answer else if chk then after_chk_cfg stage answer else if exchange then after_exchange stage answer else stage)
    ≡ after_effect stage (if diag then effect_of_diag answer else if chk then if is_done answer then configures else nothing else if exchange then effect_of_exchange answer else nothing)
others_agree stage answer true chk exchange = diag_agrees stage answer
others_agree stage answer false true exchange = chk_cfg_agrees stage (is_done answer)
others_agree stage answer false false true = exchange_agrees stage answer
others_agree stage answer false false false = refl

service_agrees : (stage : Stage) (request : Request) (asked : Option Parameters) → after_service stage request asked ≡ after_effect stage (effect_by request asked)
service_agrees stage request (Some parameters) = prm_agrees stage parameters.asked request.answer
service_agrees stage request None = others_agree stage request.answer (diag_asked request) (chk_cfg_asked request) (exchange_asked request)

pub stage_is : (stage : Stage) (request : Request) → stage_after stage request ≡ after_effect stage (effect request)
stage_is stage request = service_agrees stage request (prm_asked request)

-- only a Data_Exchange is refused, and only a Chk_Cfg configures
prm_refuses : (asked : Asked) (answer : Answer) → effect_of_prm asked answer ≡ refuses → ⊥
prm_refuses asks.Lock answers.Done is = cc
prm_refuses asks.Unlock answers.Done is = cc
prm_refuses asks.Short answers.Done is = cc
prm_refuses asked answer is = cc

diag_refuses : (answer : Answer) → effect_of_diag answer ≡ refuses → ⊥
diag_refuses (answers.Diagnosis diagnosis) is = cc
diag_refuses other is = cc

chk_cfg_refuses : (done : Bool) → (if done then configures else nothing) ≡ refuses → ⊥
chk_cfg_refuses true is = cc
chk_cfg_refuses false is = cc

other_refuses : (answer : Answer) (diag chk exchange : Bool)
    → (if diag then effect_of_diag answer else if chk then if is_done answer then configures else nothing else if exchange then effect_of_exchange answer else nothing) ≡ refuses
    → exchange ≡ true
other_refuses answer true chk exchange is = absurd (diag_refuses answer is)
other_refuses answer false true exchange is = absurd (chk_cfg_refuses (is_done answer) is)
other_refuses answer false false true is = refl
other_refuses answer false false false is = absurd cc

service_refuses : (request : Request) (asked : Option Parameters) → effect_by request asked ≡ refuses → exchange_asked request ≡ true
service_refuses request (Some parameters) is = absurd (prm_refuses parameters.asked request.answer is)
service_refuses request None is = other_refuses request.answer (diag_asked request) (chk_cfg_asked request) (exchange_asked request) is

pub refused_is_exchange : (request : Request) → effect request ≡ refuses → exchange_asked request ≡ true
refused_is_exchange request is = service_refuses request (prm_asked request) is

prm_configures : (asked : Asked) (answer : Answer) → effect_of_prm asked answer ≡ configures → ⊥
prm_configures asks.Lock answers.Done is = cc
prm_configures asks.Unlock answers.Done is = cc
prm_configures asks.Short answers.Done is = cc
prm_configures asked answer is = cc

diag_configures : (answer : Answer) → effect_of_diag answer ≡ configures → ⊥
diag_configures (answers.Diagnosis diagnosis) is = cc
diag_configures other is = cc

exchange_configures : (answer : Answer) → effect_of_exchange answer ≡ configures → ⊥
exchange_configures answers.Done is = cc
exchange_configures answers.Dh is = cc
exchange_configures answers.Rs is = cc
exchange_configures other is = cc

other_configures : (answer : Answer) (diag chk exchange : Bool)
    → (if diag then effect_of_diag answer else if chk then if is_done answer then configures else nothing else if exchange then effect_of_exchange answer else nothing) ≡ configures
    → chk ≡ true
other_configures answer true chk exchange is = absurd (diag_configures answer is)
other_configures answer false true exchange is = refl
other_configures answer false false true is = absurd (exchange_configures answer is)
other_configures answer false false false is = absurd cc

service_configures : (request : Request) (asked : Option Parameters) → effect_by request asked ≡ configures → chk_cfg_asked request ≡ true
service_configures request (Some parameters) is = absurd (prm_configures parameters.asked request.answer is)
service_configures request None is = other_configures request.answer (diag_asked request) (chk_cfg_asked request) (exchange_asked request) is

pub configured_is_chk_cfg : (request : Request) → effect request ≡ configures → chk_cfg_asked request ≡ true
configured_is_chk_cfg request is = service_configures request (prm_asked request) is
