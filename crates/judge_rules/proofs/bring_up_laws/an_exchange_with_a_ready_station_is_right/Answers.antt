use Rattle.std.proofs.Common.{Bool, true, false, List, ap, refl, ◌∙◌, ◌++◌, ◌∷◌}
use Rattle.std.specs.Prelude.{◌&&◌}
use Rattle.judge_rules.specs.declared.entry.Entry.{Entry}
use Rattle.judge_rules.specs.declared.entry.Entry.TheVariants as entries
use Rattle.judge_rules.specs.Effects.{configures, effect, ends_readiness, exchanges, starts_again}
use Rattle.judge_rules.specs.Entries.{exchange_asked}
use Rattle.judge_rules.specs.Stations.{station_of}
use Rattle.judge_rules.proofs.Bools.{and_false}
use Rattle.judge_rules.proofs.EffectSteps.{after_effect}
use Rattle.judge_rules.proofs.StagesSince.{by_effect, from_request, without_parameters_is}
use Rattle.judge_rules.proofs.StageSteps.{configured_is_set_up, configured_is_usable, configuring, is_set_up, is_usable, ready_now, set_up_stays, usable_is_late, usable_stays}
use Rattle.judge_rules.proofs.bring_up_laws.an_exchange_with_a_ready_station_is_right.Goals as goal

pub returns-clause-ready : goal.returns-clause-ready
returns-clause-ready c limit front middle back configuration diagnosis request at is reported between at_diagnosis ready none =
    let first : List Entry = front ++ entries.Request configuration ∷ middle in
    let all : List Entry = front ++ entries.Request configuration ∷ middle ++ entries.Request diagnosis ∷ back in
    ap (λ (b : Bool). exchange_asked request && b)
    (usable_is_late (station_of request.address all).stage
    (from_request is_usable true ends_readiness usable_stays request.address first back diagnosis at_diagnosis
    (ready_now (station_of request.address first).stage (effect diagnosis)
    (from_request is_set_up true starts_again set_up_stays request.address front middle configuration at
    (by_effect is_set_up true (station_of request.address front).stage (effect configuration) configures is
    (configured_is_set_up (after_effect (station_of request.address front).stage configures)
    (configuring (station_of request.address front).stage (without_parameters_is limit request.address front configuration false at is reported)))) between) ready)
    none))
    ∙ and_false (exchange_asked request)

pub returns-clause-configured : goal.returns-clause-configured
returns-clause-configured c limit front back before request at is reported none =
    ap (λ (b : Bool). exchange_asked request && b)
    (usable_is_late (station_of request.address (front ++ entries.Request before ∷ back)).stage
    (from_request is_usable true ends_readiness usable_stays request.address front back before at
    (by_effect is_usable true (station_of request.address front).stage (effect before) configures is
    (configured_is_usable (after_effect (station_of request.address front).stage configures)
    (configuring (station_of request.address front).stage (without_parameters_is limit request.address front before false at is reported)))) none))
    ∙ and_false (exchange_asked request)

pub returns-clause-exchanged : goal.returns-clause-exchanged
returns-clause-exchanged c limit front back before request at is none =
    ap (λ (b : Bool). exchange_asked request && b)
    (usable_is_late (station_of request.address (front ++ entries.Request before ∷ back)).stage
    (from_request is_usable true ends_readiness usable_stays request.address front back before at
    (by_effect is_usable true (station_of request.address front).stage (effect before) exchanges is refl) none))
    ∙ and_false (exchange_asked request)
