use Rattle.std.proofs.Common.{Bool, true, ap, refl, ◌∙◌, ◌++◌, ◌∷◌}
use Rattle.std.specs.Prelude.{◌&&◌}
use Rattle.judge_rules.specs.declared.entry.Entry.TheVariants as entries
use Rattle.judge_rules.specs.declared.rule.JudgeRule.TheVariants as rules
use Rattle.judge_rules.specs.BringUpRules.{is_before_ready}
use Rattle.judge_rules.specs.Effects.{effect, goes_on, goes_on_or_is_ready, refuses, shows_any}
use Rattle.judge_rules.specs.Entries.{exchange_asked}
use Rattle.judge_rules.specs.Rules.{breaks}
use Rattle.judge_rules.specs.Stations.{station_of}
use Rattle.judge_rules.proofs.Bools.{and_true}
use Rattle.judge_rules.proofs.StagesSince.{by_effect, early_is, from_request, from_start}
use Rattle.judge_rules.proofs.StageSteps.{early_same, early_stays, is_at_start, refusal_keeps_early, start_is_early, start_stays, started, unready}
use Rattle.judge_rules.proofs.bring_up_laws.an_exchange_before_the_station_is_ready_is_reported.Goals as goal

pub returns-clause-none : goal.returns-clause-none
returns-clause-none c limit past request none =
    ap (λ (b : Bool). exchange_asked request && b)
    (start_is_early (station_of request.address past).stage (from_start is_at_start true goes_on start_stays request.address past refl none))
    ∙ and_true (exchange_asked request)

pub returns-clause-started : goal.returns-clause-started
returns-clause-started c limit front back before request at is none =
    ap (λ (b : Bool). exchange_asked request && b)
    (start_is_early (station_of request.address (front ++ entries.Request before ∷ back)).stage
    (from_request is_at_start true goes_on start_stays request.address front back before at (started (station_of request.address front).stage (effect before) is) none))
    ∙ and_true (exchange_asked request)

pub returns-clause-unready : goal.returns-clause-unready
returns-clause-unready c limit front back before request at is none =
    ap (λ (b : Bool). exchange_asked request && b)
    (from_request is_before_ready true goes_on_or_is_ready early_stays request.address front back before at (unready (station_of request.address front).stage (effect before) is) none)
    ∙ and_true (exchange_asked request)

pub returns-clause-refused : goal.returns-clause-refused
returns-clause-refused c limit front back before request at is none =
    let reported : Bool = breaks limit front (entries.Request before) rules.ExchangeBeforeReady in
    ap (λ (b : Bool). exchange_asked request && b)
    (from_request is_before_ready reported shows_any (early_same reported) request.address front back before at
    (by_effect is_before_ready reported (station_of request.address front).stage (effect before) refuses is
    (refusal_keeps_early (station_of request.address front).stage ∙ early_is limit request.address front before reported at is refl)) none)
