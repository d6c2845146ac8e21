use Rattle.std.proofs.Common.{Bool, true, not, ap, ◌∙◌}
use Rattle.std.specs.Prelude.{◌==◌, ◌&&◌}
use Rattle.dp_telegram.specs.Access.{global_address}
use Rattle.judge_rules.specs.TelegramRules.{is_global_control}
use Rattle.judge_rules.proofs.coding_laws.a_global_control_is_no_srd.Goals as goal

pub returns-clause-srd : goal.returns-clause-srd
returns-clause-srd c limit past request srd one =
    ap (λ (b : Bool). b && not (request.address == global_address) && is_global_control request.service) srd
    ∙ ap (λ (b : Bool). true && not b && is_global_control request.service) one

pub returns-clause-other : goal.returns-clause-other
returns-clause-other c limit past request is = ap (λ (b : Bool). b && is_global_control request.service) is
