-- Lists of which one has a number or an element more, and pairs of their elements.
use Rattle.std.proofs.Common.{◌≡◌, ℕ, zero, suc, ◌+◌, ◌<◌, List, [], ◌∷◌, ◌++◌, length, take, slice_index_or, sym, ap, subst, ◌∙◌, arith}
use Rattle.std.specs.List.{AllZip, range_with_len}
use Rattle.std.proofs.lemmas.List.{map-id, take_more}
use Rattle.std.proofs.lemmas.List.FromFn.{map-range_with_len_more}

-- the elements at one place of two lists are a pair
pub pair_at : {A B : Type 0} (R : A → B → Type 0) (xs : List A) (ys : List B) (i : ℕ) (x : A) (y : B) → AllZip R xs ys → i < length xs
    → x ≡ slice_index_or xs i x → y ≡ slice_index_or ys i y → R x y
pair_at R [] ys i x y paired within is-x is-y = let no : ⊥ = omega arith in absurd no
pair_at R (v ∷ xs) [] i x y paired within is-x is-y = absurd paired
pair_at R (v ∷ xs) (w ∷ ys) zero x y paired within is-x is-y = subst (λ u. R u y) (sym is-x) (subst (R v) (sym is-y) paired.0)
pair_at R (v ∷ xs) (w ∷ ys) (suc i) x y paired within is-x is-y = pair_at R xs ys i x y paired.1 (omega arith) is-x is-y

range_more : (a n j : ℕ) → a + n ≡ j → range_with_len a (n + 1) ≡ range_with_len a n ++ j ∷ []
range_more a n j is =
    sym (map-id (range_with_len a (n + 1))) ∙ map-range_with_len_more (λ k. k) a n j is ∙ ap (λ ks. ks ++ j ∷ []) (map-id (range_with_len a n))

-- one more number, which is its index
pub one_more_numbered : (before after : List ℕ) (n m : ℕ) → before ≡ range_with_len 0 n → after ≡ before ++ n ∷ [] → m ≡ n + 1 → after ≡ range_with_len 0 m
one_more_numbered before after n m so_far more longer = rw (more, so_far, longer) (sym (range_more 0 n n (omega arith)))

-- one more element, the next one of a list
pub one_more_of : {B : Type 0} (before after ys : List B) (y : B) (n m : ℕ) → before ≡ take n ys → after ≡ before ++ y ∷ [] → m ≡ n + 1 → n < length ys
    → y ≡ slice_index_or ys n y → after ≡ take m ys
one_more_of before after ys y n m so_far more longer within here =
    rw (more, so_far, longer) (ap (λ x. take n ys ++ x ∷ []) here ∙ sym (take_more ys n y within))
