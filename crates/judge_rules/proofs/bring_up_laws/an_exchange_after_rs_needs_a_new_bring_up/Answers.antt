use Rattle.std.proofs.Common.{Bool, true, false, ap, refl, ◌∙◌}
use Rattle.std.specs.Prelude.{◌&&◌}
use Rattle.judge_rules.specs.BringUpRules.{is_lost}
use Rattle.judge_rules.specs.Effects.{effect, is_refused, refuses, shows_state}
use Rattle.judge_rules.specs.Entries.{exchange_asked}
use Rattle.judge_rules.specs.Stations.{station_of}
use Rattle.judge_rules.proofs.Bools.{and_false, and_true}
use Rattle.judge_rules.proofs.StagesSince.{by_effect, early_or_taken_is, from_request, from_start}
use Rattle.judge_rules.proofs.StageSteps.{found, found_stays, lost_stays, refusal_is_early, refusal_loses}
use Rattle.judge_rules.proofs.bring_up_laws.an_exchange_after_rs_needs_a_new_bring_up.Goals as goal

pub returns-clause-none : goal.returns-clause-none
returns-clause-none c limit past request none =
    ap (λ (b : Bool). exchange_asked request && b) (from_start is_lost false is_refused found_stays request.address past refl none) ∙ and_false (exchange_asked request)

pub returns-clause-refused : goal.returns-clause-refused
returns-clause-refused c limit front back before request at is reported none =
    ap (λ (b : Bool). exchange_asked request && b)
    (from_request is_lost true shows_state lost_stays request.address front back before at
    (by_effect is_lost true (station_of request.address front).stage (effect before) refuses is
    (refusal_loses (station_of request.address front).stage (early_or_taken_is limit request.address front before false at is reported))) none)
    ∙ and_true (exchange_asked request)

pub returns-clause-early : goal.returns-clause-early
returns-clause-early c limit front back before request at is reported none =
    ap (λ (b : Bool). exchange_asked request && b)
    (from_request is_lost false is_refused found_stays request.address front back before at
    (by_effect is_lost false (station_of request.address front).stage (effect before) refuses is
    (refusal_is_early (station_of request.address front).stage (early_or_taken_is limit request.address front before true at is reported))) none)
    ∙ and_false (exchange_asked request)

pub returns-clause-answered : goal.returns-clause-answered
returns-clause-answered c limit front back before request at shown none =
    ap (λ (b : Bool). exchange_asked request && b)
    (from_request is_lost false is_refused found_stays request.address front back before at
    (found (station_of request.address front).stage (effect before) shown) none)
    ∙ and_false (exchange_asked request)
