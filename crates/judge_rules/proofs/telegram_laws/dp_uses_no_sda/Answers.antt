use Rattle.std.proofs.Common.{◌≡◌, true, false, ap, refl}
use Rattle.dp_telegram.specs.declared.function_code.Function.{Function}
use Rattle.dp_telegram.specs.declared.function_code.Function.TheVariants as functions
use Rattle.dp_telegram.specs.FunctionCode.{asks_sdn, asks_srd}
use Rattle.judge_rules.specs.TelegramRules.{is_sda}
use Rattle.judge_rules.proofs.telegram_laws.dp_uses_no_sda.Goals as goal

of_sdn : (function : Function) → asks_sdn function ≡ true → is_sda function ≡ false
of_sdn functions.SdnLow is = refl
of_sdn functions.SdnHigh is = refl
of_sdn other is = absurd cc

of_srd : (function : Function) → asks_srd function ≡ true → is_sda function ≡ false
of_srd functions.SrdLow is = refl
of_srd functions.SrdHigh is = refl
of_srd other is = absurd cc

pub returns-clause-low : goal.returns-clause-low
returns-clause-low c limit past request is = ap (λ (f : Function). is_sda f) is

pub returns-clause-high : goal.returns-clause-high
returns-clause-high c limit past request is = ap (λ (f : Function). is_sda f) is

pub returns-clause-srd : goal.returns-clause-srd
returns-clause-srd c limit past request is = of_srd request.function is

pub returns-clause-sdn : goal.returns-clause-sdn
returns-clause-sdn c limit past request is = of_sdn request.function is

pub returns-clause-status : goal.returns-clause-status
returns-clause-status c limit past request is = ap (λ (f : Function). is_sda f) is
