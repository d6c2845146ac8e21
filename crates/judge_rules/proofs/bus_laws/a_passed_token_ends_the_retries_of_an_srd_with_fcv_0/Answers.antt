use Rattle.std.proofs.Common.{◌≡◌, Bool, true, false, [], ◌∷◌, Option, Some, None, ap, refl, sym, ◌∙◌}
use Rattle.std.specs.Prelude.{◌==◌, ◌&&◌, if◌then◌else◌}
use Rattle.std.proofs.lemmas.List.Sums.{fold-append}
use Rattle.judge_rules.specs.declared.bus.Bus.{Bus}
use Rattle.judge_rules.specs.declared.entry.Entry.TheVariants as entries
use Rattle.judge_rules.specs.declared.station.Last.{Last}
use Rattle.judge_rules.specs.BusFacts.{bus_after, bus_after_request, bus_of, has_fcv, is_retry, new_bus}
use Rattle.judge_rules.specs.Entries.{is_srd}
use Rattle.judge_rules.specs.ExchangeRules.{retry_limit}
use Rattle.judge_rules.specs.Stations.{last_of}
use Rattle.judge_rules.proofs.Walks.{bus_more}
use Rattle.judge_rules.proofs.bus_laws.a_passed_token_ends_the_retries_of_an_srd_with_fcv_0.Goals as goal

kept : (srd : Bool) (last : Last) → srd ≡ true → last.fcv ≡ true
    → (if has_fcv (if srd then Some last else None) then (if srd then Some last else None) else None) ≡ (if srd then Some last else None)
kept true last is valid = ap (λ (b : Bool). if b then Some last else None) valid
kept false last is valid = absurd cc

dropped : (srd : Bool) (last : Last) → last.fcv ≡ false → (if has_fcv (if srd then Some last else None) then (if srd then Some last else None) else None) ≡ None
dropped true last invalid = ap (λ (b : Bool). if b then Some last else None) invalid
dropped false last invalid = refl

twice_by : (fcv : Bool) (last : Last) → last.fcv ≡ fcv → (if has_fcv (if fcv then Some last else None) then (if fcv then Some last else None) else None) ≡ (if fcv then Some last else None)
twice_by true last is = ap (λ (b : Bool). if b then Some last else None) is
twice_by false last is = refl

twice : (last : Option Last) → (if has_fcv (if has_fcv last then last else None) then (if has_fcv last then last else None) else None) ≡ (if has_fcv last then last else None)
twice None = refl
twice (Some last) = twice_by last.fcv last refl

pub returns-clause-valid : goal.returns-clause-valid
returns-clause-valid c limit to front before request is valid =
    ap (λ (b : Bus). retry_limit limit b request) (fold-append bus_after new_bus front (entries.Request before ∷ entries.PassedToken to ∷ []))
    ∙ ap (λ (l : Option Last). is_retry l request && ((bus_after_request (bus_of front) before).retries == limit)) (kept (is_srd before) (last_of before) is valid)
    ∙ sym (ap (λ (b : Bus). retry_limit limit b request) (bus_more front (entries.Request before)))

pub returns-clause-invalid : goal.returns-clause-invalid
returns-clause-invalid c limit to front before request invalid =
    ap (λ (b : Bus). retry_limit limit b request) (fold-append bus_after new_bus front (entries.Request before ∷ entries.PassedToken to ∷ []))
    ∙ ap (λ (l : Option Last). is_retry l request && ((bus_after_request (bus_of front) before).retries == limit)) (dropped (is_srd before) (last_of before) invalid)

pub returns-clause-again : goal.returns-clause-again
returns-clause-again c limit to next front request =
    ap (λ (b : Bus). retry_limit limit b request) (fold-append bus_after new_bus front (entries.PassedToken to ∷ entries.PassedToken next ∷ []))
    ∙ ap (λ (l : Option Last). is_retry l request && ((bus_of front).retries == limit)) (twice (bus_of front).last)
    ∙ sym (ap (λ (b : Bus). retry_limit limit b request) (bus_more front (entries.PassedToken to)))
