use Rattle.std.proofs.Common.{Bool, true, false, ap, refl, ◌∙◌}
use Rattle.std.specs.Prelude.{◌&&◌}
use Rattle.judge_rules.specs.BringUpRules.{is_configured}
use Rattle.judge_rules.specs.Effects.{configures, effect, gives_parameters, is_configured_by, shows_or_refuses}
use Rattle.judge_rules.specs.Entries.{exchange_asked}
use Rattle.judge_rules.specs.declared.entry.Entry.TheVariants as entries
use Rattle.judge_rules.specs.Stages.{is_parametrized}
use Rattle.judge_rules.specs.Stations.{station_of}
use Rattle.std.proofs.Common.{◌++◌, ◌∷◌}
use Rattle.judge_rules.proofs.Bools.{and_false, and_true}
use Rattle.judge_rules.proofs.StagesSince.{by_effect, from_request, from_start, without_parameters_is}
use Rattle.judge_rules.proofs.StageSteps.{configured_has, configured_stays, configuring, configuring_early, none_stay, unconfigured, unconfigured_stays}
use Rattle.judge_rules.proofs.bring_up_laws.an_exchange_after_chk_cfg_needs_a_diagnosis.Goals as goal

pub returns-clause-none : goal.returns-clause-none
returns-clause-none c limit past request none =
    ap (λ (b : Bool). exchange_asked request && b) (from_start is_configured false is_configured_by unconfigured_stays request.address past refl none) ∙ and_false (exchange_asked request)

pub returns-clause-configured : goal.returns-clause-configured
returns-clause-configured c limit front back before request at is reported none =
    ap (λ (b : Bool). exchange_asked request && b)
    (from_request is_configured true shows_or_refuses configured_stays request.address front back before at
    (by_effect is_configured true (station_of request.address front).stage (effect before) configures is
    (configuring (station_of request.address front).stage (without_parameters_is limit request.address front before false at is reported))) none)
    ∙ and_true (exchange_asked request)

pub returns-clause-early : goal.returns-clause-early
returns-clause-early c limit front back before request at is reported none =
    ap (λ (b : Bool). exchange_asked request && b)
    (configured_has (station_of request.address (front ++ entries.Request before ∷ back)).stage
    (from_request is_parametrized false gives_parameters none_stay request.address front back before at
    (by_effect is_parametrized false (station_of request.address front).stage (effect before) configures is
    (configuring_early (station_of request.address front).stage (without_parameters_is limit request.address front before true at is reported))) none))
    ∙ and_false (exchange_asked request)

pub returns-clause-answered : goal.returns-clause-answered
returns-clause-answered c limit front back before request at shown none =
    ap (λ (b : Bool). exchange_asked request && b)
    (from_request is_configured false is_configured_by unconfigured_stays request.address front back before at
    (unconfigured (station_of request.address front).stage (effect before) shown) none)
    ∙ and_false (exchange_asked request)
