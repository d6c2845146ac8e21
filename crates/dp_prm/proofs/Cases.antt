-- The case that gives a verdict.
use Rattle.std.proofs.Common.{◌≡◌, ℕ, ◌<◌, ◌≤◌, ◌↔◌, ◌⊎◌, inl, inr, Bool, true, false, not, List, [], ◌∷◌, length, All, IfSome, refl, sym, ap, ◌∙◌, arith, length-drop}
use Rattle.std.proofs.lemmas.Grind.{common_steps}
use Rattle.std.proofs.lemmas.Bool.{ltb-false, ltb-true}
use Rattle.std.proofs.lemmas.List.Elements.{All-get_or}
use Rattle.dp_prm.specs.declared.limits.Limits.{Limits}
use Rattle.dp_prm.specs.declared.prm.Prm.{Prm}
use Rattle.dp_prm.specs.declared.prm.PrmVerdict.{PrmVerdict}
use Rattle.dp_prm.specs.declared.prm.PrmVerdict.TheVariants.{MinTsdr, Unlock, Lock, Fault}
use Rattle.dp_prm.specs.Meaning.{first_case, meaning_of, most_octets, most_user_parameters, is_short, unlock_req, lock_req, min_tsdr, is_faulty, is_not_supported, parameters, wd_on, wd_fact_1, wd_fact_2}
use Rattle.dp_prm.specs.Requests.{AsksUnsupported, IsAcceptable, IsForMinTsdr, IsLocking, IsUnlocking}
use Rattle.dp_prm.proofs.Acceptable.{is_faulty-acceptable, acceptable-is_faulty, is_not_supported-asks, asks-is_not_supported, is_not_supported-is_faulty}
use Rattle.dp_prm.proofs.Factors.{time_between}

-- the verdict by the conditions of the cases
abbrev by_cases : Bool → Bool → Bool → Bool → Bool → ℕ → Prm → PrmVerdict
by_cases short unlock lock faulty unsupported tsdr prm = first_case (
    (short, Fault false)
    ∷ (unlock, Unlock)
    ∷ (not lock, MinTsdr tsdr)
    ∷ (faulty, Fault unsupported)
    ∷ []) (Lock prm)

-- what holds if a verdict was given
lock_case : (short unlock lock faulty unsupported : Bool) (tsdr : ℕ) (mine prm : Prm)
    → by_cases short unlock lock faulty unsupported tsdr mine ≡ Lock prm
    → (short ≡ false) × (unlock ≡ false) × (lock ≡ true) × (faulty ≡ false) × (mine ≡ prm)
lock_case true unlock lock faulty unsupported tsdr mine prm e = absurd cc
lock_case false true lock faulty unsupported tsdr mine prm e = absurd cc
lock_case false false false faulty unsupported tsdr mine prm e = absurd cc
lock_case false false true true unsupported tsdr mine prm e = absurd cc
lock_case false false true false unsupported tsdr mine prm e = (refl, refl, refl, refl, cc)

min_tsdr_case : (short unlock lock faulty unsupported : Bool) (mine tsdr : ℕ) (prm : Prm)
    → by_cases short unlock lock faulty unsupported mine prm ≡ MinTsdr tsdr
    → (short ≡ false) × (unlock ≡ false) × (lock ≡ false) × (tsdr ≡ mine)
min_tsdr_case true unlock lock faulty unsupported mine tsdr prm e = absurd cc
min_tsdr_case false true lock faulty unsupported mine tsdr prm e = absurd cc
min_tsdr_case false false false faulty unsupported mine tsdr prm e = (refl, refl, refl, cc)
min_tsdr_case false false true true unsupported mine tsdr prm e = absurd cc
min_tsdr_case false false true false unsupported mine tsdr prm e = absurd cc

unsupported_case : (short unlock lock faulty unsupported : Bool) (tsdr : ℕ) (prm : Prm)
    → by_cases short unlock lock faulty unsupported tsdr prm ≡ Fault true
    → (short ≡ false) × (unlock ≡ false) × (lock ≡ true) × (unsupported ≡ true)
unsupported_case true unlock lock faulty unsupported tsdr prm e = absurd cc
unsupported_case false true lock faulty unsupported tsdr prm e = absurd cc
unsupported_case false false false faulty unsupported tsdr prm e = absurd cc
unsupported_case false false true true unsupported tsdr prm e = (refl, refl, refl, cc)
unsupported_case false false true false unsupported tsdr prm e = absurd cc

-- a verdict if its case is reached
whole_is : (octets : List ℕ) → 7 ≤ length octets → is_short octets ≡ false
whole_is octets whole = grind (arith, common_steps)

lock_by : (octets : List ℕ) (limits : Limits) → IsLocking octets → IsAcceptable octets limits
    → meaning_of octets limits ≡ Lock (parameters octets)
lock_by octets limits locking good = simp (whole_is octets locking.whole, locking.no_unlock, locking.lock, acceptable-is_faulty octets limits good)

min_tsdr_by : (octets : List ℕ) (limits : Limits) → IsForMinTsdr octets → meaning_of octets limits ≡ MinTsdr (min_tsdr octets)
min_tsdr_by octets limits neither = simp (whole_is octets neither.whole, neither.no_unlock, neither.no_lock)

unsupported_by : (octets : List ℕ) (limits : Limits) → IsLocking octets → is_not_supported octets limits ≡ true
    → meaning_of octets limits ≡ Fault true
unsupported_by octets limits locking asked = simp (whole_is octets locking.whole, locking.no_unlock, locking.lock, is_not_supported-is_faulty octets limits asked, asked)

pub locks : (octets : List ℕ) (limits : Limits) (prm : Prm)
    → (meaning_of octets limits ≡ Lock prm) ↔ (IsLocking octets × IsAcceptable octets limits × (prm ≡ parameters octets))
locks octets limits prm = (
  λ e. let rows = lock_case (is_short octets) (unlock_req octets) (lock_req octets) (is_faulty octets limits) (is_not_supported octets limits) (min_tsdr octets) (parameters octets) prm e in
      (record { whole = ltb-false (length octets) 7 rows.0; no_unlock = rows.1; lock = rows.2 }, is_faulty-acceptable octets limits rows.3, sym rows.4),
  λ (locking, good, same). lock_by octets limits locking good ∙ ap Lock (sym same),
)

pub sets_min_tsdr : (octets : List ℕ) (limits : Limits) (tsdr : ℕ)
    → (meaning_of octets limits ≡ MinTsdr tsdr) ↔ (IsForMinTsdr octets × (tsdr ≡ min_tsdr octets))
sets_min_tsdr octets limits tsdr = (
  λ e. let rows = min_tsdr_case (is_short octets) (unlock_req octets) (lock_req octets) (is_faulty octets limits) (is_not_supported octets limits) (min_tsdr octets) tsdr (parameters octets) e in
      (record { whole = ltb-false (length octets) 7 rows.0; no_unlock = rows.1; no_lock = rows.2 }, rows.3),
  λ (neither, same). min_tsdr_by octets limits neither ∙ ap MinTsdr (sym same),
)

pub reports_not_supported : (octets : List ℕ) (limits : Limits)
    → (meaning_of octets limits ≡ Fault true) ↔ (IsLocking octets × AsksUnsupported octets limits)
reports_not_supported octets limits = (
  λ e. let rows = unsupported_case (is_short octets) (unlock_req octets) (lock_req octets) (is_faulty octets limits) (is_not_supported octets limits) (min_tsdr octets) (parameters octets) e in
      (record { whole = ltb-false (length octets) 7 rows.0; no_unlock = rows.1; lock = rows.2 }, is_not_supported-asks octets limits rows.3),
  λ (locking, asked). unsupported_by octets limits locking (asks-is_not_supported octets limits asked),
)

-- the conditions of the cases cover all octets
abbrev SomeCase : List ℕ → Limits → Type 0
SomeCase octets limits =
    (length octets < 7)
    ⊎ IsUnlocking octets
    ⊎ IsForMinTsdr octets
    ⊎ (IsLocking octets × IsAcceptable octets limits)
    ⊎ (IsLocking octets × ¬ IsAcceptable octets limits)

by_conditions : (octets : List ℕ) (limits : Limits) (short unlock lock faulty : Bool)
    → is_short octets ≡ short → unlock_req octets ≡ unlock → lock_req octets ≡ lock → is_faulty octets limits ≡ faulty → SomeCase octets limits
by_conditions octets limits true unlock lock faulty a b c d = inl (ltb-true (length octets) 7 a)
by_conditions octets limits false true lock faulty a b c d = inr (inl (record { whole = ltb-false (length octets) 7 a; unlock = b }))
by_conditions octets limits false false false faulty a b c d = inr (inr (inl (record { whole = ltb-false (length octets) 7 a; no_unlock = b; no_lock = c })))
by_conditions octets limits false false true false a b c d =
    inr (inr (inr (inl (record { whole = ltb-false (length octets) 7 a; no_unlock = b; lock = c }, is_faulty-acceptable octets limits d))))
by_conditions octets limits false false true true a b c d =
    inr (inr (inr (inr (record { whole = ltb-false (length octets) 7 a; no_unlock = b; lock = c }, λ good. cc (acceptable-is_faulty octets limits good)))))

pub some_case : (octets : List ℕ) (limits : Limits) → SomeCase octets limits
some_case octets limits = by_conditions octets limits (is_short octets) (unlock_req octets) (lock_req octets) (is_faulty octets limits) refl refl refl refl

-- the watchdog of an accepted locking request
pub watchdog_between : (octets : List ℕ) (limits : Limits) (prm : Prm)
    → All (λ octet. octet < 256) octets
    → meaning_of octets limits ≡ Lock prm
    → IfSome prm.watchdog (λ time. (1 ≤ time) × (time ≤ 65025))
watchdog_between octets limits prm below e =
    let (locking, good, same) = (locks octets limits prm).0 e in
    let first : wd_fact_1 octets < 256 = All-get_or (λ octet. octet < 256) octets 1 0 (omega arith) below in
    let second : wd_fact_2 octets < 256 = All-get_or (λ octet. octet < 256) octets 2 0 (omega arith) below in
    rw same (time_between (wd_on octets) (wd_fact_1 octets) (wd_fact_2 octets) (omega arith) (omega arith) good.factors)

-- the user parameters of an accepted locking request
pub user_parameters_fit : (octets : List ℕ) (limits : Limits) (prm : Prm)
    → length octets ≤ most_octets
    → meaning_of octets limits ≡ Lock prm
    → length prm.user.items ≤ most_user_parameters
user_parameters_fit octets limits prm most e =
    let (locking, good, same) = (locks octets limits prm).0 e in
    rw same (omega (arith, length-drop 7 octets))
