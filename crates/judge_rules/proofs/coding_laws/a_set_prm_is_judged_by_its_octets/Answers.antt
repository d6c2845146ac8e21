use Rattle.std.proofs.Common.{◌≡◌, ℕ, Bool, true, false, not, List, Option, length, None, ap, refl, ◌∙◌}
use Rattle.std.specs.Prelude.{◌&&◌, ◌||◌, ◌==◌, nat_lt, slice_index, if◌then◌else◌}
use Rattle.dp_telegram.specs.FunctionCode.{is_set}
use Rattle.judge_rules.specs.declared.entry.Asked.TheVariants as asks
use Rattle.judge_rules.specs.declared.entry.Parameters.{Parameters}
use Rattle.judge_rules.specs.declared.entry.Request.{Request}
use Rattle.judge_rules.specs.declared.entry.Service.{Service}
use Rattle.judge_rules.specs.declared.entry.Service.TheVariants as services
use Rattle.judge_rules.specs.Entries.{is_served, parameters_of, prm_asked}
use Rattle.judge_rules.specs.ParameterRules.{has_lock_and_unlock, has_reserved, has_short, is_short, sets_watchdog_zero}
use Rattle.judge_rules.specs.Reading.{asked_in, has_zero_factor, parameters_in}
use Rattle.judge_rules.proofs.coding_laws.a_set_prm_is_judged_by_its_octets.Goals as goal

by : {X : Type 0} (f : Option Parameters → X) (request : Request) (octets : List ℕ) → is_served request ≡ true → request.service ≡ services.SetPrm (parameters_in octets)
    → f (prm_asked request) ≡ f (parameters_of (services.SetPrm (parameters_in octets)))
by f request octets served is =
    ap (λ (b : Bool). f (if b then parameters_of request.service else None)) served ∙ ap (λ (s : Service). f (parameters_of s)) is

short_by : (few unlock lock : Bool) → is_short (if few then asks.Short else if unlock then asks.Unlock else if lock then asks.Lock else asks.MinTsdr) ≡ few
short_by true unlock lock = refl
short_by false true lock = refl
short_by false false true = refl
short_by false false false = refl

short_is : (octets : List ℕ) → is_short (asked_in octets) ≡ nat_lt (length octets) 7
short_is octets = short_by (nat_lt (length octets) 7) (is_set 6 (slice_index octets 0)) (is_set 7 (slice_index octets 0))

pub returns-clause-short : goal.returns-clause-short
returns-clause-short c limit past request octets served is = by has_short request octets served is ∙ short_is octets

pub returns-clause-reserved : goal.returns-clause-reserved
returns-clause-reserved c limit past request octets served is = by has_reserved request octets served is

pub returns-clause-both : goal.returns-clause-both
returns-clause-both c limit past request octets served is = by has_lock_and_unlock request octets served is

pub returns-clause-watchdog : goal.returns-clause-watchdog
returns-clause-watchdog c limit past request octets served is =
    by sets_watchdog_zero request octets served is ∙ ap (λ (b : Bool). has_zero_factor octets && not b) (short_is octets)

pub returns-clause-other : goal.returns-clause-other
returns-clause-other c limit past request is =
    ap (λ (o : Option Parameters). has_short o || has_reserved o || has_lock_and_unlock o || sets_watchdog_zero o) is
