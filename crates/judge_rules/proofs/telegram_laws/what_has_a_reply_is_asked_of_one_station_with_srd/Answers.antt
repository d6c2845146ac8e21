use Rattle.std.proofs.Common.{Bool, ap}
use Rattle.std.specs.Prelude.{◌&&◌}
use Rattle.judge_rules.specs.TelegramRules.{has_reply, is_answered_function}
use Rattle.judge_rules.proofs.telegram_laws.what_has_a_reply_is_asked_of_one_station_with_srd.Goals as goal

pub returns-clause-sdn : goal.returns-clause-sdn
returns-clause-sdn c limit past request is = ap (λ (b : Bool). b && has_reply request.service) is

pub returns-clause-no_sdn : goal.returns-clause-no_sdn
returns-clause-no_sdn c limit past request is = ap (λ (b : Bool). b && has_reply request.service) is

pub returns-clause-all : goal.returns-clause-all
returns-clause-all c limit past request is = ap (λ (b : Bool). b && is_answered_function request.function) is

pub returns-clause-one : goal.returns-clause-one
returns-clause-one c limit past request is = ap (λ (b : Bool). b && is_answered_function request.function) is
