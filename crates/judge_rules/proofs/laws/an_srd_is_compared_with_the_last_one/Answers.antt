use Rattle.std.proofs.Common.{Option, ap}
use Rattle.judge_rules.specs.declared.station.Last.{Last}
use Rattle.judge_rules.specs.Before.{octets_stored}
use Rattle.judge_rules.specs.FcbRules.{is_counted, may_be_counted, repeats_an_answered, repeats_with_another, stays_uncounted}
use Rattle.std.specs.Prelude.{◌&&◌, not}
use Rattle.judge_rules.proofs.LastRequests.{last_is}
use Rattle.judge_rules.proofs.laws.an_srd_is_compared_with_the_last_one.Goals as goal

pub returns-clause-repeated : goal.returns-clause-repeated
returns-clause-repeated c limit front back before request here none =
    ap (λ (last : Option Last). repeats_with_another last request) (last_is request.address front back before here none)

pub returns-clause-alternated : goal.returns-clause-alternated
returns-clause-alternated c limit front back before request here none =
    ap (λ (last : Option Last). repeats_an_answered last request) (last_is request.address front back before here none)

pub returns-clause-first : goal.returns-clause-first
returns-clause-first c limit front back before request here none =
    ap (λ (last : Option Last). is_counted request && request.fcv && not (may_be_counted last)) (last_is request.address front back before here none)

pub returns-clause-uncounted : goal.returns-clause-uncounted
returns-clause-uncounted c limit front back before request here none =
    ap (λ (last : Option Last). stays_uncounted last request) (last_is request.address front back before here none)

pub returns-clause-shown : goal.returns-clause-shown
returns-clause-shown c front back before request here none =
    ap (λ (last : Option Last). octets_stored last) (last_is request.address front back before here none)
