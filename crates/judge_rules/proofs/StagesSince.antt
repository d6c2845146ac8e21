-- A test of the stage that effects leave, after a request to the station and after all entries that follow.
use Rattle.std.proofs.Common.{◌≡◌, ℕ, Bool, true, not, List, ◌∷◌, ◌++◌, sym, ap, ◌∙◌}
use Rattle.std.specs.Prelude.{◌&&◌, ◌||◌}
use Rattle.judge_rules.specs.declared.entry.Entry.{Entry}
use Rattle.judge_rules.specs.declared.entry.Entry.TheVariants as entries
use Rattle.judge_rules.specs.declared.entry.Request.{Request}
use Rattle.judge_rules.specs.declared.stage.Stage.{Stage}
use Rattle.judge_rules.specs.declared.stage.Stage.TheVariants as stages
use Rattle.judge_rules.specs.declared.rule.JudgeRule.TheVariants as rules
use Rattle.judge_rules.specs.BringUpRules.{is_before_ready, is_taken}
use Rattle.judge_rules.specs.Effects.{Effect, configures, effect, have_no_effect, refuses}
use Rattle.judge_rules.specs.Entries.{chk_cfg_asked, exchange_asked}
use Rattle.judge_rules.specs.Rules.{breaks}
use Rattle.judge_rules.specs.Stages.{is_parametrized}
use Rattle.judge_rules.specs.Stations.{new_station, station_of}
use Rattle.judge_rules.proofs.Bools.{second}
use Rattle.judge_rules.proofs.EffectSteps.{after_effect, configured_is_chk_cfg, refused_is_exchange, stage_is}
use Rattle.judge_rules.proofs.Since.{kept, since}

-- from the start
pub from_start : (Q : Stage → Bool) (x : Bool) (test : Effect → Bool)
    → ((stage : Stage) (e : Effect) → Q stage ≡ x → not (test e) ≡ true → Q (after_effect stage e) ≡ x)
    → (address : ℕ) (past : List Entry) → Q stages.Unseen ≡ x → have_no_effect test address past ≡ true → Q (station_of address past).stage ≡ x
from_start Q x test step address past now none =
    kept (λ s. Q s.stage) x (λ r. test (effect r)) (λ s r is other. ap (λ (stage : Stage). Q stage) (stage_is s.stage r) ∙ step s.stage (effect r) is other)
    address new_station past now none

-- from a request on
pub from_request : (Q : Stage → Bool) (x : Bool) (test : Effect → Bool)
    → ((stage : Stage) (e : Effect) → Q stage ≡ x → not (test e) ≡ true → Q (after_effect stage e) ≡ x)
    → (address : ℕ) (front back : List Entry) (before : Request) → before.address ≡ address
    → Q (after_effect (station_of address front).stage (effect before)) ≡ x → have_no_effect test address back ≡ true
    → Q (station_of address (front ++ entries.Request before ∷ back)).stage ≡ x
from_request Q x test step address front back before at now none =
    since (λ s. Q s.stage) x (λ r. test (effect r)) (λ s r is other. ap (λ (stage : Stage). Q stage) (stage_is s.stage r) ∙ step s.stage (effect r) is other)
    address front back before at (ap (λ (stage : Stage). Q stage) (stage_is (station_of address front).stage before) ∙ now) none

-- what is reported of the request itself says what the stage was
pub early_is : (limit address : ℕ) (front : List Entry) (before : Request) (v : Bool) → before.address ≡ address → effect before ≡ refuses
    → breaks limit front (entries.Request before) rules.ExchangeBeforeReady ≡ v → is_before_ready (station_of address front).stage ≡ v
early_is limit address front before v at is reported =
    ap (λ (a : ℕ). is_before_ready (station_of a front).stage) (sym at)
    ∙ second (exchange_asked before) (is_before_ready (station_of before.address front).stage) v (refused_is_exchange before is) reported

pub early_or_taken_is : (limit address : ℕ) (front : List Entry) (before : Request) (v : Bool) → before.address ≡ address → effect before ≡ refuses
    → (breaks limit front (entries.Request before) rules.ExchangeBeforeReady || breaks limit front (entries.Request before) rules.ExchangeOfOther) ≡ v
    → (is_before_ready (station_of address front).stage || is_taken (station_of address front).stage) ≡ v
early_or_taken_is limit address front before v at is reported =
    ap (λ (a : ℕ). is_before_ready (station_of a front).stage || is_taken (station_of a front).stage) (sym at)
    ∙ ap (λ (b : Bool). b && is_before_ready (station_of before.address front).stage || b && is_taken (station_of before.address front).stage) (sym (refused_is_exchange before is))
    ∙ reported

pub without_parameters_is : (limit address : ℕ) (front : List Entry) (before : Request) (v : Bool) → before.address ≡ address → effect before ≡ configures
    → breaks limit front (entries.Request before) rules.CfgBeforePrm ≡ v → not (is_parametrized (station_of address front).stage) ≡ v
without_parameters_is limit address front before v at is reported =
    ap (λ (a : ℕ). not (is_parametrized (station_of a front).stage)) (sym at)
    ∙ second (chk_cfg_asked before) (not (is_parametrized (station_of before.address front).stage)) v (configured_is_chk_cfg before is) reported

-- the stage after a request with this effect
pub by_effect : (Q : Stage → Bool) (x : Bool) (stage : Stage) (e f : Effect) → e ≡ f → Q (after_effect stage f) ≡ x → Q (after_effect stage e) ≡ x
by_effect Q x stage e f is now = ap (λ (g : Effect). Q (after_effect stage g)) is ∙ now
