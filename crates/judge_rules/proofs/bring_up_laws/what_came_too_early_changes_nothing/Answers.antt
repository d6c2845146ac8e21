use Rattle.std.proofs.Common.{◌≡◌, ℕ, Bool, true, false, not, List, [], ◌∷◌, ◌++◌, ap, refl, sym, ◌∙◌}
use Rattle.std.specs.Prelude.{◌==◌, ◌&&◌, is_some, if◌then◌else◌}
use Rattle.std.specs.List.{fold}
use Rattle.std.proofs.lemmas.Bool.{eqb-true}
use Rattle.std.proofs.lemmas.List.Sums.{fold-append}
use Rattle.judge_rules.specs.declared.bus.Bus.{Bus}
use Rattle.judge_rules.specs.declared.entry.Entry.{Entry}
use Rattle.judge_rules.specs.declared.entry.Entry.TheVariants as entries
use Rattle.judge_rules.specs.declared.entry.Request.{Request}
use Rattle.judge_rules.specs.declared.rule.JudgeRule.{JudgeRule}
use Rattle.judge_rules.specs.declared.rule.JudgeRule.TheVariants as rules
use Rattle.judge_rules.specs.declared.stage.Stage.{Stage}
use Rattle.judge_rules.specs.declared.stage.Stage.TheVariants as stages
use Rattle.judge_rules.specs.declared.station.Station.{Station}
use Rattle.judge_rules.specs.BringUpRules.{is_before_ready, is_configured, is_lost, is_taken, is_unseen, is_without_lock}
use Rattle.judge_rules.specs.BusFacts.{bus_of}
use Rattle.judge_rules.specs.Effects.{Effect}
use Rattle.judge_rules.specs.Entries.{chk_cfg_asked, exchange_asked, prm_asked}
use Rattle.judge_rules.specs.LawWords.{is_of_the_bring_up}
use Rattle.judge_rules.specs.Rules.{broken_by}
use Rattle.judge_rules.specs.Stages.{is_parametrized, refused, stage_after}
use Rattle.judge_rules.specs.Stations.{new_station, station_after, station_of, station_with}
use Rattle.judge_rules.proofs.EffectSteps.{after_effect, stage_is}
use Rattle.judge_rules.proofs.StagesSince.{early_is, without_parameters_is}
use Rattle.judge_rules.proofs.bring_up_laws.what_came_too_early_changes_nothing.Goals as goal

unconfigured : (stage : Stage) → not (is_parametrized stage) ≡ true → (if is_parametrized stage then stages.Configured else stage) ≡ stage
unconfigured stages.Unseen is = refl
unconfigured stages.Idle is = refl
unconfigured stages.Taken is = refl
unconfigured stages.Lost is = refl
unconfigured stage is = absurd cc

early : (stage : Stage) → is_before_ready stage ≡ true → refused stage ≡ stage
early stages.Unseen is = refl
early stages.Idle is = refl
early stages.Parametrized is = refl
early stages.NotReady is = refl
early stage is = absurd cc

either : (at : Bool) (s t u v : Station) → s.stage ≡ t.stage → u.stage ≡ v.stage → (if at then s else u).stage ≡ (if at then t else v).stage
either true s t u v here there = here
either false s t u v here there = there

all : (address : ℕ) (s t : Station) (back : List Entry) → s.stage ≡ t.stage → (fold (station_with address) s back).stage ≡ (fold (station_with address) t back).stage
all address s t [] same = same
all address s t (entries.Request r ∷ back) same =
    all address (station_with address s (entries.Request r)) (station_with address t (entries.Request r)) back
    (either (r.address == address) (station_after s r) (station_after t r) s t (ap (λ (stage : Stage). stage_after stage r) same) same)
all address s t (entries.PassedToken to ∷ back) same = all address s t back same
all address s t (entries.Stray ∷ back) same = all address s t back same

left : (at : Bool) (s after : Station) → (at ≡ true → after.stage ≡ s.stage) → (if at then after else s).stage ≡ s.stage
left true s after same = same refl
left false s after same = refl

same_stage : (address : ℕ) (front back : List Entry) (r : Request) → ((r.address == address) ≡ true → stage_after (station_of address front).stage r ≡ (station_of address front).stage)
    → (station_of address (front ++ entries.Request r ∷ back)).stage ≡ (station_of address (front ++ back)).stage
same_stage address front back r same =
    ap (λ (s : Station). s.stage) (fold-append (station_with address) new_station front (entries.Request r ∷ back))
    ∙ all address (station_with address (station_of address front) (entries.Request r)) (station_of address front) back
    (left (r.address == address) (station_of address front) (station_after (station_of address front) r) same)
    ∙ sym (ap (λ (s : Station). s.stage) (fold-append (station_with address) new_station front back))

by_stage : (limit : ℕ) (bus other : Bus) (s t : Station) (r : Request) (rule : JudgeRule) → s.stage ≡ t.stage → is_of_the_bring_up rule ≡ true
    → broken_by limit bus s r rule ≡ broken_by limit other t r rule
by_stage limit bus other s t r rules.PrmBeforeDiag same of = ap (λ (stage : Stage). is_some (prm_asked r) && is_unseen stage) same
by_stage limit bus other s t r rules.PrmWithoutLock same of = ap (λ (stage : Stage). is_without_lock (prm_asked r) && not (is_parametrized stage)) same
by_stage limit bus other s t r rules.CfgBeforePrm same of = ap (λ (stage : Stage). chk_cfg_asked r && not (is_parametrized stage)) same
by_stage limit bus other s t r rules.ExchangeBeforeReady same of = ap (λ (stage : Stage). exchange_asked r && is_before_ready stage) same
by_stage limit bus other s t r rules.ExchangeWithoutDiag same of = ap (λ (stage : Stage). exchange_asked r && is_configured stage) same
by_stage limit bus other s t r rules.ExchangeAfterRs same of = ap (λ (stage : Stage). exchange_asked r && is_lost stage) same
by_stage limit bus other s t r rules.ExchangeOfOther same of = ap (λ (stage : Stage). exchange_asked r && is_taken stage) same
by_stage limit bus other s t r rules.PrmOfOther same of = ap (λ (stage : Stage). is_some (prm_asked r) && is_taken stage) same
by_stage limit bus other s t r rule same of = absurd cc

pub returns-clause-chk_cfg : goal.returns-clause-chk_cfg
returns-clause-chk_cfg c limit front back before request rule is reported of =
    by_stage limit (bus_of (front ++ entries.Request before ∷ back)) (bus_of (front ++ back))
    (station_of request.address (front ++ entries.Request before ∷ back)) (station_of request.address (front ++ back)) request rule
    (same_stage request.address front back before
    (λ at. stage_is (station_of request.address front).stage before
    ∙ ap (λ (e : Effect). after_effect (station_of request.address front).stage e) is
    ∙ unconfigured (station_of request.address front).stage (without_parameters_is limit request.address front before true (eqb-true before.address request.address at) is reported)))
    of

pub returns-clause-exchange : goal.returns-clause-exchange
returns-clause-exchange c limit front back before request rule is reported of =
    by_stage limit (bus_of (front ++ entries.Request before ∷ back)) (bus_of (front ++ back))
    (station_of request.address (front ++ entries.Request before ∷ back)) (station_of request.address (front ++ back)) request rule
    (same_stage request.address front back before
    (λ at. stage_is (station_of request.address front).stage before
    ∙ ap (λ (e : Effect). after_effect (station_of request.address front).stage e) is
    ∙ early (station_of request.address front).stage (early_is limit request.address front before true (eqb-true before.address request.address at) is reported)))
    of
