-- The reasons to refuse a locking request, as tests and as facts.
use Rattle.std.proofs.Common.{◌≡◌, ℕ, ◌<◌, inl, inr, Bool, true, false, not, ◌&&◌, ◌||◌, eqb, List, [], ◌∷◌, length, refl, ap, arith}
use Rattle.std.proofs.lemmas.Bool.{ltb-false, eqb-true, eq-eqb, not-false}
use Rattle.std.specs.List.{list_any}
use Rattle.dp_prm.specs.declared.limits.Limits.{Limits}
use Rattle.dp_prm.specs.Meaning.{is_faulty, is_not_supported, is_of_another_ident, has_factor_0, asks_unsupported_sync, asks_unsupported_freeze, has_too_many_user_prm, ident_number, wd_on, wd_fact_1, wd_fact_2, sync_req, freeze_req, user_prm}
use Rattle.dp_prm.specs.Requests.{AsksUnsupported, IsAcceptable}

no_reason : (a b c d e : Bool) → list_any (λ reason. reason) (a ∷ b ∷ c ∷ d ∷ e ∷ []) ≡ false
    → (a ≡ false) × (b ≡ false) × (c ≡ false) × (d ≡ false) × (e ≡ false)
no_reason true b c d e h = absurd cc
no_reason false true c d e h = absurd cc
no_reason false false true d e h = absurd cc
no_reason false false false true e h = absurd cc
no_reason false false false false true h = absurd cc
no_reason false false false false false h = (refl, refl, refl, refl, refl)

some_reason : (a b c d e : Bool) → (c || d) ≡ true → list_any (λ reason. reason) (a ∷ b ∷ c ∷ d ∷ e ∷ []) ≡ true
some_reason a b c d e h = grind arith

factors_above_0 : (on : Bool) (m n : ℕ) → (on && (eqb m 0 || eqb n 0)) ≡ false → on ≡ true → (0 < m) × (0 < n)
factors_above_0 on m n e o = (grind arith, grind arith)

no_factor_0 : (on : Bool) (m n : ℕ) → (on ≡ true → (0 < m) × (0 < n)) → (on && (eqb m 0 || eqb n 0)) ≡ false
no_factor_0 false m n h = refl
no_factor_0 true m n h = let above = h refl in grind arith

supported : (asked has : Bool) → (asked && not has) ≡ false → asked ≡ true → has ≡ true
supported asked true e a = refl
supported true false e a = absurd cc
supported false false e a = absurd cc

none_unsupported : (asked has : Bool) → (asked ≡ true → has ≡ true) → (asked && not has) ≡ false
none_unsupported false has h = refl
none_unsupported true has h = ap not (h refl)

-- parameters are acceptable exactly if there is no reason to refuse them
pub is_faulty-acceptable : (octets : List ℕ) (limits : Limits) → is_faulty octets limits ≡ false → IsAcceptable octets limits
is_faulty-acceptable octets limits e =
    let none = no_reason (is_of_another_ident octets limits) (has_factor_0 octets) (asks_unsupported_sync octets limits)
    (asks_unsupported_freeze octets limits) (has_too_many_user_prm octets limits) e in
    record {
      ident = eqb-true (ident_number octets) limits.ident (not-false _ none.0);
      factors = factors_above_0 (wd_on octets) (wd_fact_1 octets) (wd_fact_2 octets) none.1;
      sync = supported (sync_req octets) limits.sync none.2;
      freeze = supported (freeze_req octets) limits.freeze none.3;
      user = ltb-false limits.user_max (length (user_prm octets)) none.4;
    }

pub acceptable-is_faulty : (octets : List ℕ) (limits : Limits) → IsAcceptable octets limits → is_faulty octets limits ≡ false
acceptable-is_faulty octets limits good =
    let ident : is_of_another_ident octets limits ≡ false = ap not (eq-eqb (ident_number octets) limits.ident good.ident) in
    let factors : has_factor_0 octets ≡ false = no_factor_0 (wd_on octets) (wd_fact_1 octets) (wd_fact_2 octets) good.factors in
    let sync : asks_unsupported_sync octets limits ≡ false = none_unsupported (sync_req octets) limits.sync good.sync in
    let freeze : asks_unsupported_freeze octets limits ≡ false = none_unsupported (freeze_req octets) limits.freeze good.freeze in
    let user : has_too_many_user_prm octets limits ≡ false = let most = good.user in grind arith in
    simp (ident, factors, sync, freeze, user)

-- something is not supported exactly if it is asked for without support
pub is_not_supported-asks : (octets : List ℕ) (limits : Limits) → is_not_supported octets limits ≡ true → AsksUnsupported octets limits
is_not_supported-asks octets limits e = grind arith

pub asks-is_not_supported : (octets : List ℕ) (limits : Limits) → AsksUnsupported octets limits → is_not_supported octets limits ≡ true
asks-is_not_supported octets limits (inl h) = grind arith
asks-is_not_supported octets limits (inr h) = grind arith

-- what is not supported is a reason to refuse
pub is_not_supported-is_faulty : (octets : List ℕ) (limits : Limits) → is_not_supported octets limits ≡ true → is_faulty octets limits ≡ true
is_not_supported-is_faulty octets limits =
    some_reason (is_of_another_ident octets limits) (has_factor_0 octets) (asks_unsupported_sync octets limits)
    (asks_unsupported_freeze octets limits) (has_too_many_user_prm octets limits)
