use Rattle.std.proofs.Common.{Bool, true, false, ap, refl, ◌∙◌}
use Rattle.std.specs.Prelude.{◌&&◌}
use Rattle.judge_rules.specs.declared.stage.Stage.{Stage}
use Rattle.judge_rules.specs.BringUpRules.{is_unseen}
use Rattle.judge_rules.specs.Effects.{asks_prm, effect, shows_state}
use Rattle.judge_rules.specs.Stations.{new_station, station_of}
use Rattle.judge_rules.proofs.EffectSteps.{stage_is}
use Rattle.judge_rules.proofs.StageSteps.{seen_now, seen_stays, unseen_stays}
use Rattle.judge_rules.proofs.Bools.{and_false, and_true}
use Rattle.judge_rules.proofs.Since.{ever_since, kept}
use Rattle.judge_rules.proofs.bring_up_laws.set_prm_needs_a_reply_before.Goals as goal

pub returns-clause-none : goal.returns-clause-none
returns-clause-none c limit past request none =
    ap (λ (b : Bool). asks_prm request && b)
    (kept (λ s. is_unseen s.stage) true (λ r. shows_state (effect r))
    (λ s r now other. ap (λ (x : Stage). is_unseen x) (stage_is s.stage r) ∙ unseen_stays s.stage (effect r) now other)
    request.address new_station past refl none)
    ∙ and_true (asks_prm request)

pub returns-clause-some : goal.returns-clause-some
returns-clause-some c limit front back before request at shown =
    ap (λ (b : Bool). asks_prm request && b)
    (ever_since (λ s. is_unseen s.stage) false
    (λ s r now. ap (λ (x : Stage). is_unseen x) (stage_is s.stage r) ∙ seen_stays s.stage (effect r) now)
    request.address front back before at
    (ap (λ (x : Stage). is_unseen x) (stage_is (station_of request.address front).stage before) ∙ seen_now (station_of request.address front).stage (effect before) shown))
    ∙ and_false (asks_prm request)
