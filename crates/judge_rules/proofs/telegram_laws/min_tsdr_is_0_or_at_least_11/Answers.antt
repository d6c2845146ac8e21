use Rattle.std.proofs.Common.{◌≡◌, ℕ, ◌≤◌, true, false, Option, Some, ap, arith, ◌∙◌}
use Rattle.std.specs.Prelude.{◌==◌, ◌&&◌, not, nat_lt}
use Rattle.judge_rules.specs.declared.entry.Parameters.{Parameters}
use Rattle.judge_rules.specs.ParameterRules.{has_low_min_tsdr}
use Rattle.judge_rules.proofs.telegram_laws.min_tsdr_is_0_or_at_least_11.Goals as goal

low : (n : ℕ) → 1 ≤ n → n ≤ 10 → (not (n == 0) && nat_lt n 11) ≡ true
low n least most = grind arith

none : (n : ℕ) → n ≡ 0 → (not (n == 0) && nat_lt n 11) ≡ false
none n is = ap (λ (k : ℕ). not (k == 0) && nat_lt k 11) is

high : (n : ℕ) → 11 ≤ n → (not (n == 0) && nat_lt n 11) ≡ false
high n least = grind arith

by : {o : Option Parameters} {p : Parameters} → o ≡ Some p → has_low_min_tsdr o ≡ has_low_min_tsdr (Some p)
by is = ap (λ (o : Option Parameters). has_low_min_tsdr o) is

pub returns-clause-low : goal.returns-clause-low
returns-clause-low c limit past request parameters is least most = by is ∙ low parameters.min_tsdr least most

pub returns-clause-zero : goal.returns-clause-zero
returns-clause-zero c limit past request parameters is none_set = by is ∙ none parameters.min_tsdr none_set

pub returns-clause-high : goal.returns-clause-high
returns-clause-high c limit past request parameters is least = by is ∙ high parameters.min_tsdr least

pub returns-clause-other : goal.returns-clause-other
returns-clause-other c limit past request is = ap (λ (o : Option Parameters). has_low_min_tsdr o) is
