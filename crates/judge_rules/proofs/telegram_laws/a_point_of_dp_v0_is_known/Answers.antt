use Rattle.std.proofs.Common.{◌≡◌, Bool, true, ap, refl, ◌∙◌}
use Rattle.std.specs.Prelude.{◌&&◌, ◌||◌}
use Rattle.std.proofs.lemmas.Bool.{and_parts}
use Rattle.dp_telegram.specs.FunctionCode.{asks_sdn}
use Rattle.judge_rules.specs.declared.entry.Service.{Service}
use Rattle.judge_rules.specs.declared.entry.Service.TheVariants as services
use Rattle.judge_rules.specs.Entries.{is_srd}
use Rattle.judge_rules.specs.TelegramRules.{is_unknown}
use Rattle.judge_rules.proofs.telegram_laws.a_point_of_dp_v0_is_known.Goals as goal

only_unknown : (service : Service) → is_unknown service ≡ true → service ≡ services.Unknown
only_unknown services.Unknown is = refl
only_unknown other is = absurd cc

pub returns-clause-unknown : goal.returns-clause-unknown
returns-clause-unknown c limit past request asks is =
    ap (λ (b : Bool). b && is_unknown request.service) asks ∙ ap (λ (s : Service). is_unknown s) is

pub returns-clause-only : goal.returns-clause-only
returns-clause-only c limit past request is =
    only_unknown request.service (and_parts (is_srd request || asks_sdn request.function) (is_unknown request.service) is).1

pub returns-clause-other : goal.returns-clause-other
returns-clause-other c limit past request asks = ap (λ (b : Bool). b && is_unknown request.service) asks
