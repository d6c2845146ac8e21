use Rattle.std.proofs.Common.{◌≡◌, Bool, true, refl}
use Rattle.judge_rules.specs.declared.bus.Bus.{Bus}
use Rattle.judge_rules.specs.declared.rule.JudgeRule.{JudgeRule}
use Rattle.judge_rules.specs.declared.rule.JudgeRule.TheVariants as rules
use Rattle.judge_rules.specs.BusFacts.{bus_of}
use Rattle.judge_rules.specs.Rules.{broken_by_stray}
use Rattle.judge_rules.specs.TokenRules.{broken_by_token, is_slave}
use Rattle.judge_rules.proofs.telegram_laws.only_requests_break_the_other_rules.Goals as goal

by_number : (bus : Bus) (rule : JudgeRule) → broken_by_stray bus rule ≡ true → rule ≡ rules.NoRequest
by_number bus rules.NoRequest is = refl
by_number bus other is = absurd cc

by_token : (to_slave : Bool) (rule : JudgeRule) → broken_by_token to_slave rule ≡ true → rule ≡ rules.TokenToSlave
by_token to_slave rules.TokenToSlave is = refl
by_token to_slave other is = absurd cc

pub returns-clause-token : goal.returns-clause-token
returns-clause-token c limit to past rule is = by_token (is_slave to past) rule is

pub returns-clause-stray : goal.returns-clause-stray
returns-clause-stray c limit past rule is = by_number (bus_of past) rule is
