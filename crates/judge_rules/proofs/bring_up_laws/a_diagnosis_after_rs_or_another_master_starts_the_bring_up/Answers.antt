use Rattle.std.proofs.Common.{◌≡◌, ℕ, Bool, true, false, List, ap, ◌∙◌, ◌++◌, ◌∷◌}
use Rattle.std.specs.Prelude.{◌&&◌, ◌||◌}
use Rattle.judge_rules.specs.declared.entry.Entry.{Entry}
use Rattle.judge_rules.specs.declared.entry.Entry.TheVariants as entries
use Rattle.judge_rules.specs.declared.entry.Request.{Request}
use Rattle.judge_rules.specs.BringUpRules.{is_before_ready, is_lost, is_taken}
use Rattle.judge_rules.specs.Effects.{effect, goes_on, have_no_effect, refuses, shows_own, shows_state}
use Rattle.judge_rules.specs.Entries.{exchange_asked}
use Rattle.judge_rules.specs.Stations.{station_of}
use Rattle.judge_rules.proofs.Bools.{and_true}
use Rattle.judge_rules.proofs.StagesSince.{by_effect, early_or_taken_is, from_request}
use Rattle.judge_rules.proofs.StageSteps.{is_at_start, lost_or_taken, lost_stays, other_is_state, own_now, refusal_loses, start_is_early, start_stays, taken_now, taken_or_lost, taken_stays}
use Rattle.judge_rules.proofs.bring_up_laws.a_diagnosis_after_rs_or_another_master_starts_the_bring_up.Goals as goal

started : (address : ℕ) (first back : List Entry) (diagnosis : Request) → diagnosis.address ≡ address → shows_own (effect diagnosis) ≡ true
    → (is_taken (station_of address first).stage || is_lost (station_of address first).stage) ≡ true → have_no_effect goes_on address back ≡ true
    → is_before_ready (station_of address (first ++ entries.Request diagnosis ∷ back)).stage ≡ true
started address first back diagnosis at own was none =
    start_is_early (station_of address (first ++ entries.Request diagnosis ∷ back)).stage
    (from_request is_at_start true goes_on start_stays address first back diagnosis at (own_now (station_of address first).stage (effect diagnosis) was own) none)

pub returns-clause-other : goal.returns-clause-other
returns-clause-other c limit front middle back before diagnosis request at is between at_diagnosis own none =
    let first : List Entry = front ++ entries.Request before ∷ middle in
    ap (λ (b : Bool). exchange_asked request && b)
    (started request.address first back diagnosis at_diagnosis own
    (taken_or_lost (station_of request.address first).stage
    (from_request is_taken true shows_state (taken_stays true) request.address front middle before at
    (taken_now (station_of request.address front).stage (effect before) (other_is_state (effect before) is) ∙ is) between)) none)
    ∙ and_true (exchange_asked request)

pub returns-clause-refused : goal.returns-clause-refused
returns-clause-refused c limit front middle back before diagnosis request at is reported between at_diagnosis own none =
    let first : List Entry = front ++ entries.Request before ∷ middle in
    ap (λ (b : Bool). exchange_asked request && b)
    (started request.address first back diagnosis at_diagnosis own
    (lost_or_taken (station_of request.address first).stage
    (from_request is_lost true shows_state lost_stays request.address front middle before at
    (by_effect is_lost true (station_of request.address front).stage (effect before) refuses is
    (refusal_loses (station_of request.address front).stage (early_or_taken_is limit request.address front before false at is reported))) between)) none)
    ∙ and_true (exchange_asked request)
