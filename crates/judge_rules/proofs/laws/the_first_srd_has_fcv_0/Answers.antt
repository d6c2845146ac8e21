use Rattle.std.proofs.Common.{◌≡◌, Bool, true, false, Option, ap, refl, ◌∙◌}
use Rattle.std.specs.Prelude.{◌&&◌, not}
use Rattle.judge_rules.specs.declared.station.Last.{Last}
use Rattle.judge_rules.specs.FcbRules.{is_counted, may_be_counted, repeats_with_another, stays_uncounted}
use Rattle.judge_rules.proofs.LastRequests.{none_is}
use Rattle.judge_rules.proofs.laws.the_first_srd_has_fcv_0.Goals as goal

and_true : (b : Bool) → (b && true) ≡ b
and_true true = refl
and_true false = refl

pub returns-clause-first : goal.returns-clause-first
returns-clause-first c limit past request none =
    ap (λ (last : Option Last). is_counted request && request.fcv && not (may_be_counted last)) (none_is request.address past none)
    ∙ and_true (is_counted request && request.fcv)

pub returns-clause-repeated : goal.returns-clause-repeated
returns-clause-repeated c limit past request none =
    ap (λ (last : Option Last). repeats_with_another last request) (none_is request.address past none)

pub returns-clause-uncounted : goal.returns-clause-uncounted
returns-clause-uncounted c limit past request none =
    ap (λ (last : Option Last). stays_uncounted last request) (none_is request.address past none)
