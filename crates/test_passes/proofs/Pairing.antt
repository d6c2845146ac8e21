-- Two lists whose elements at each place are related.
use Rattle.std.proofs.Common.{◌≡◌, ℕ, zero, suc, ◌<◌, List, [], ◌∷◌, length, slice_index_or, subst, arith}
use Rattle.std.specs.List.{AllZip}

-- the element at a place is related to this one
abbrev pub IsPairedAt : {A B : Type 0} → (A → B → Type 0) → List A → ℕ → B → Type 0
IsPairedAt {A} R xs i y = (x : A) × (x ≡ slice_index_or xs i x) × R x y

-- lists of one length whose elements at each place are related
pub all_paired : {A B : Type 0} (R : A → B → Type 0) (xs : List A) (ys : List B) → length ys ≡ length xs → ((i : ℕ) (d : B) → i < length xs → IsPairedAt R xs i (slice_index_or ys i d)) → AllZip R xs ys
all_paired R [] [] long each = tt
all_paired R [] (y ∷ ys) long each = let no : ⊥ = omega arith in absurd no
all_paired R (x ∷ xs) [] long each = let no : ⊥ = omega arith in absurd no
all_paired R (x ∷ xs) (y ∷ ys) long each =
    let (z, is, paired) = each zero y (omega arith) in (
      subst (λ w. R w y) is paired,
      all_paired R xs ys (omega arith) (λ i d within. each (suc i) d (omega arith)),
    )
