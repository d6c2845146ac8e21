-- The result of a search of many octets at once is the place of the first octet found.
use Rattle.std.proofs.Common.{◌≡◌, ℕ, ◌<◌, Bool, true, false, ltb, List, length, get_or, Some, None, refl, sym, ap, ◌∙◌, le_refl, arith}
use Rattle.std.specs.Prelude.{◌==◌, position}
use Rattle.std.specs.List.{position_or_len}
use Rattle.std.proofs.lemmas.Bool.{lt-ltb, le-ltb, cond-true, cond-false}
use Rattle.std.proofs.lemmas.List.Sums.{position_or_len_is}
use Rattle.memchr.specs.Find.{Nowhere, NoneBefore, Passes}

abbrev pub is_lf : ℕ → Bool
is_lf octet = octet == 10

fails : (test : Bool) → (test ≡ true → ⊥) → test ≡ false
fails true never = absurd (never refl)
fails false never = refl

place_is : (p : ℕ → Bool) (xs : List ℕ) (i : ℕ) → position_or_len p xs ≡ i → i < length xs → Some i ≡ position p xs
place_is p xs i is within =
    sym (cond-true (ltb (position_or_len p xs) (length xs)) (Some (position_or_len p xs)) None (lt-ltb _ _ (omega (arith, is, within))) ∙ ap Some is)

pub first_place : (p : ℕ → Bool) (xs : List ℕ) (i : ℕ) → NoneBefore (Passes p xs) 0 (length xs) i × Passes p xs i → Some i ≡ position p xs
first_place p xs i (none, passes) =
    let is : position_or_len p xs ≡ i =
    position_or_len_is p xs i 0 (omega (arith, none.high)) (λ k h. fails (p (get_or xs k 0)) (none.before k (omega arith) h)) (λ h. passes) in
    place_is p xs i is none.high

pub no_place : (p : ℕ → Bool) (xs : List ℕ) → Nowhere (Passes p xs) 0 (length xs) → None ≡ position p xs
no_place p xs none =
    let is : position_or_len p xs ≡ length xs =
    position_or_len_is p xs (length xs) 0 (le_refl (length xs)) (λ k h. fails (p (get_or xs k 0)) (none k (omega arith) h)) (λ h. absurd (omega (arith, h))) in
    sym (cond-false (ltb (position_or_len p xs) (length xs)) (Some (position_or_len p xs)) None (le-ltb _ _ (omega (arith, is))))
