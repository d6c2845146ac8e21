use Rattle.std.proofs.Common.{Bool, true, not, ap, ◌∙◌}
use Rattle.std.specs.Prelude.{◌==◌, ◌&&◌}
use Rattle.judge_rules.specs.TelegramRules.{has_no_data}
use Rattle.judge_rules.proofs.coding_laws.a_request_without_data_has_none.Goals as goal

pub returns-clause-asked : goal.returns-clause-asked
returns-clause-asked c limit past request srd none =
    ap (λ (b : Bool). b && has_no_data request.service && not (request.payload.count == 0)) srd
    ∙ ap (λ (b : Bool). true && b && not (request.payload.count == 0)) none

pub returns-clause-other : goal.returns-clause-other
returns-clause-other c limit past request is = ap (λ (b : Bool). b && not (request.payload.count == 0)) is
