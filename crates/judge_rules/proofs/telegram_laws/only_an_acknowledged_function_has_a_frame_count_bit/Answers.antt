use Rattle.std.proofs.Common.{◌≡◌, Bool, true, false, ap, refl}
use Rattle.std.specs.Prelude.{◌&&◌, ◌||◌}
use Rattle.dp_telegram.specs.declared.function_code.Function.{Function}
use Rattle.dp_telegram.specs.declared.function_code.Function.TheVariants as functions
use Rattle.dp_telegram.specs.FunctionCode.{asks_sdn, asks_srd}
use Rattle.judge_rules.specs.FcbRules.{has_no_count}
use Rattle.judge_rules.proofs.telegram_laws.only_an_acknowledged_function_has_a_frame_count_bit.Goals as goal

of_sdn : (function : Function) → asks_sdn function ≡ true → has_no_count function ≡ true
of_sdn functions.SdnLow is = refl
of_sdn functions.SdnHigh is = refl
of_sdn other is = absurd cc

of_srd : (function : Function) → asks_srd function ≡ true → has_no_count function ≡ false
of_srd functions.SrdLow is = refl
of_srd functions.SrdHigh is = refl
of_srd other is = absurd cc

pub returns-clause-sdn : goal.returns-clause-sdn
returns-clause-sdn c limit past request is = ap (λ (b : Bool). b && (request.fcb || request.fcv)) (of_sdn request.function is)

pub returns-clause-status : goal.returns-clause-status
returns-clause-status c limit past request is = ap (λ (f : Function). has_no_count f && (request.fcb || request.fcv)) is

pub returns-clause-ident : goal.returns-clause-ident
returns-clause-ident c limit past request is = ap (λ (f : Function). has_no_count f && (request.fcb || request.fcv)) is

pub returns-clause-points : goal.returns-clause-points
returns-clause-points c limit past request is = ap (λ (f : Function). has_no_count f && (request.fcb || request.fcv)) is

pub returns-clause-srd : goal.returns-clause-srd
returns-clause-srd c limit past request is = ap (λ (b : Bool). b && (request.fcb || request.fcv)) (of_srd request.function is)
