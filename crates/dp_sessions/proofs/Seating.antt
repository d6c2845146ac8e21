-- Two lists whose elements at each place are related.
use Rattle.std.proofs.Common.{◌≡◌, ℕ, zero, suc, ◌<◌, List, [], ◌∷◌, length, slice_index_or, slice_set, sym, subst, arith}
use Rattle.std.specs.List.{AllZip}

-- the elements at a place are related
pub paired_at : {A B : Type 0} (R : A → B → Type 0) (xs : List A) (ys : List B) (i : ℕ) (x : A) (d : B) → AllZip R xs ys → i < length xs → x ≡ slice_index_or xs i x → R x (slice_index_or ys i d)
paired_at R [] ys i x d paired within is = let no : ⊥ = omega arith in absurd no
paired_at R (z ∷ xs) [] i x d paired within is = absurd paired
paired_at R (z ∷ xs) (y ∷ ys) zero x d paired within is = subst (λ w. R w y) (sym is) paired.0
paired_at R (z ∷ xs) (y ∷ ys) (suc i) x d paired within is = paired_at R xs ys i x d paired.1 (omega arith) is

-- a related element in place of another
pub paired_again : {A B : Type 0} (R : A → B → Type 0) (xs : List A) (ys : List B) (i : ℕ) (x : A) (y : B) → AllZip R xs ys → i < length xs → x ≡ slice_index_or xs i x → R x y → AllZip R xs (slice_set ys i y)
paired_again R [] ys i x y paired within is again = let no : ⊥ = omega arith in absurd no
paired_again R (z ∷ xs) [] i x y paired within is again = absurd paired
paired_again R (z ∷ xs) (w ∷ ys) zero x y paired within is again = (subst (λ v. R v y) is again, paired.1)
paired_again R (z ∷ xs) (w ∷ ys) (suc i) x y paired within is again = (paired.0, paired_again R xs ys i x y paired.1 (omega arith) is again)
