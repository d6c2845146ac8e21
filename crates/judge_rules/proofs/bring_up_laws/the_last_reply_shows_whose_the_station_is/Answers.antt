use Rattle.std.proofs.Common.{◌≡◌, ℕ, Bool, true, false, List, ◌++◌, ◌∷◌, ap, refl, ◌∙◌}
use Rattle.std.specs.Prelude.{◌&&◌}
use Rattle.judge_rules.specs.declared.entry.Entry.{Entry}
use Rattle.judge_rules.specs.declared.entry.Entry.TheVariants as entries
use Rattle.judge_rules.specs.declared.entry.Request.{Request}
use Rattle.judge_rules.specs.declared.stage.Stage.{Stage}
use Rattle.judge_rules.specs.BringUpRules.{is_taken}
use Rattle.judge_rules.specs.Effects.{asks_prm, effect, have_no_effect, shows_other, shows_state}
use Rattle.judge_rules.specs.Entries.{exchange_asked}
use Rattle.judge_rules.specs.Stations.{new_station, station_of}
use Rattle.judge_rules.proofs.Bools.{and_false}
use Rattle.judge_rules.proofs.EffectSteps.{stage_is}
use Rattle.judge_rules.proofs.Since.{kept, since}
use Rattle.judge_rules.proofs.StageSteps.{taken_now, taken_stays}
use Rattle.judge_rules.proofs.bring_up_laws.the_last_reply_shows_whose_the_station_is.Goals as goal

taken_is : (address : ℕ) (front back : List Entry) (before : Request) → before.address ≡ address → shows_state (effect before) ≡ true
    → have_no_effect shows_state address back ≡ true
    → is_taken (station_of address (front ++ entries.Request before ∷ back)).stage ≡ shows_other (effect before)
taken_is address front back before at shown none =
    since (λ s. is_taken s.stage) (shows_other (effect before)) (λ r. shows_state (effect r))
    (λ s r now other. ap (λ (x : Stage). is_taken x) (stage_is s.stage r) ∙ taken_stays (shows_other (effect before)) s.stage (effect r) now other)
    address front back before at
    (ap (λ (x : Stage). is_taken x) (stage_is (station_of address front).stage before) ∙ taken_now (station_of address front).stage (effect before) shown)
    none

not_taken : (address : ℕ) (past : List Entry) → have_no_effect shows_state address past ≡ true → is_taken (station_of address past).stage ≡ false
not_taken address past none =
    kept (λ s. is_taken s.stage) false (λ r. shows_state (effect r))
    (λ s r now other. ap (λ (x : Stage). is_taken x) (stage_is s.stage r) ∙ taken_stays false s.stage (effect r) now other)
    address new_station past refl none

pub returns-clause-exchange : goal.returns-clause-exchange
returns-clause-exchange c limit front back before request at shown none =
    ap (λ (b : Bool). exchange_asked request && b) (taken_is request.address front back before at shown none)

pub returns-clause-prm : goal.returns-clause-prm
returns-clause-prm c limit front back before request at shown none =
    ap (λ (b : Bool). asks_prm request && b) (taken_is request.address front back before at shown none)

pub returns-clause-no_exchange : goal.returns-clause-no_exchange
returns-clause-no_exchange c limit past request none =
    ap (λ (b : Bool). exchange_asked request && b) (not_taken request.address past none) ∙ and_false (exchange_asked request)

pub returns-clause-no_prm : goal.returns-clause-no_prm
returns-clause-no_prm c limit past request none =
    ap (λ (b : Bool). asks_prm request && b) (not_taken request.address past none) ∙ and_false (asks_prm request)
