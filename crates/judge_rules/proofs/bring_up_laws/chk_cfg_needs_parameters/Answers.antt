use Rattle.std.proofs.Common.{Bool, true, false, not, ap, refl, ◌∙◌}
use Rattle.std.specs.Prelude.{◌&&◌}
use Rattle.judge_rules.specs.Effects.{changes_parameters, effect, gives_parameters, may_lose_parameters, refuses}
use Rattle.judge_rules.specs.Entries.{chk_cfg_asked}
use Rattle.judge_rules.specs.Stages.{is_parametrized}
use Rattle.judge_rules.specs.Stations.{station_of}
use Rattle.judge_rules.proofs.Bools.{and_false, and_true}
use Rattle.judge_rules.proofs.StagesSince.{by_effect, early_is, from_request, from_start}
use Rattle.judge_rules.proofs.StageSteps.{none_stay, parameters_given, parameters_same, parameters_stay, parameters_taken, refusal_leaves, refusal_takes}
use Rattle.judge_rules.proofs.bring_up_laws.chk_cfg_needs_parameters.Goals as goal

pub returns-clause-none : goal.returns-clause-none
returns-clause-none c limit past request none =
    ap (λ (b : Bool). chk_cfg_asked request && not b) (from_start is_parametrized false gives_parameters none_stay request.address past refl none) ∙ and_true (chk_cfg_asked request)

pub returns-clause-given : goal.returns-clause-given
returns-clause-given c limit front back before request at given none =
    ap (λ (b : Bool). chk_cfg_asked request && not b)
    (from_request is_parametrized true may_lose_parameters parameters_stay request.address front back before at
    (parameters_given (station_of request.address front).stage (effect before) given) none)
    ∙ and_false (chk_cfg_asked request)

pub returns-clause-lost : goal.returns-clause-lost
returns-clause-lost c limit front back before request at lost none =
    ap (λ (b : Bool). chk_cfg_asked request && not b)
    (from_request is_parametrized false gives_parameters none_stay request.address front back before at
    (parameters_taken (station_of request.address front).stage (effect before) lost) none)
    ∙ and_true (chk_cfg_asked request)

pub returns-clause-refused : goal.returns-clause-refused
returns-clause-refused c limit front back before request at is reported none =
    ap (λ (b : Bool). chk_cfg_asked request && not b)
    (from_request is_parametrized false gives_parameters none_stay request.address front back before at
    (by_effect is_parametrized false (station_of request.address front).stage (effect before) refuses is
    (refusal_takes (station_of request.address front).stage (early_is limit request.address front before false at is reported))) none)
    ∙ and_true (chk_cfg_asked request)

pub returns-clause-early : goal.returns-clause-early
returns-clause-early c limit front back before request at is reported none =
    ap (λ (b : Bool). chk_cfg_asked request && not b)
    (from_request is_parametrized (is_parametrized (station_of request.address front).stage) changes_parameters (parameters_same (is_parametrized (station_of request.address front).stage))
    request.address front back before at
    (by_effect is_parametrized (is_parametrized (station_of request.address front).stage) (station_of request.address front).stage (effect before) refuses is
    (refusal_leaves (station_of request.address front).stage (early_is limit request.address front before true at is reported))) none)
