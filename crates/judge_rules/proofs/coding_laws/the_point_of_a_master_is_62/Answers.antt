use Rattle.std.proofs.Common.{Bool, true, not, ap, ◌∙◌}
use Rattle.std.specs.Prelude.{◌&&◌}
use Rattle.judge_rules.specs.TelegramRules.{is_asked_by_62, is_point_62}
use Rattle.judge_rules.proofs.coding_laws.the_point_of_a_master_is_62.Goals as goal

pub returns-clause-asked : goal.returns-clause-asked
returns-clause-asked c limit past request asks by_62 =
    ap (λ (b : Bool). b && is_asked_by_62 request.service && not (is_point_62 request.ssap)) asks
    ∙ ap (λ (b : Bool). true && b && not (is_point_62 request.ssap)) by_62

pub returns-clause-other : goal.returns-clause-other
returns-clause-other c limit past request is = ap (λ (b : Bool). b && not (is_point_62 request.ssap)) is
