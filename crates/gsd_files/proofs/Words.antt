-- The first word of a text.
use Rattle.std.proofs.Common.{◌≡◌, ℕ, suc, ◌+◌, ◌-◌, Bool, true, false, not, cond, ltb, List, [], ◌∷◌, length, take, drop, Some, None, refl, sym, ap, ◌∙◌, arith}
use Rattle.std.specs.Prelude.{position}
use Rattle.std.specs.List.{slice_split, onto_first, position_or_len}
use Rattle.std.proofs.lemmas.Bool.{ltb-true, ltb-false, le-ltb}
use Rattle.std.proofs.lemmas.List.{take_rest}
use Rattle.std.proofs.lemmas.List.Splits.{slice_split_first, slice_split-cons_no}

-- the first place by the test of the first element
place_by : Bool → ℕ → ℕ
place_by found place = cond (not found) (1 + place) 0

passes_not : (found : Bool) (place count : ℕ) → ltb (place_by found place) (suc count) ≡ false → (found ≡ false) × (ltb place count ≡ false)
unfolding place_by
passes_not true place count e = absurd (omega (arith, ltb-false 0 (suc count) e))
passes_not false place count e = (refl, le-ltb place count (omega (arith, ltb-false (1 + place) (suc count) e)))

none_passes : (p : ℕ → Bool) (xs : List ℕ) → ltb (position_or_len p xs) (length xs) ≡ false → slice_split p xs ≡ xs ∷ []
unfolding place_by
none_passes p [] e = refl
none_passes p (x ∷ xs) e =
    let (first, others) = passes_not (p x) (position_or_len p xs) (length xs) e in
    slice_split-cons_no p x xs first ∙ ap (onto_first x) (none_passes p xs others)

some_place : (test : Bool) (n i : ℕ) → cond test (Some n) None ≡ Some i → (test ≡ true) × (n ≡ i)
some_place true n i e = (refl, cc)
some_place false n i e = absurd cc

no_place : (test : Bool) (n : ℕ) → cond test (Some n) None ≡ None → test ≡ false
no_place true n e = absurd cc
no_place false n e = refl

rest_of : (xs : List ℕ) (i : ℕ) → take (length xs - (i + 1)) (drop (i + 1) xs) ≡ drop (i + 1) xs
rest_of xs i = take_rest xs (i + 1)

pub part_found : (p : ℕ → Bool) (xs : List ℕ) (i : ℕ) → Some i ≡ position p xs
    → slice_split p xs ≡ take i xs ∷ slice_split p (take (length xs - (i + 1)) (drop (i + 1) xs))
part_found p xs i e =
    let (within, is) = some_place (ltb (position_or_len p xs) (length xs)) (position_or_len p xs) i (sym e) in
    slice_split_first p xs 0 (ltb-true _ _ within)
    ∙ ap (λ n. take n xs ∷ slice_split p (drop (n + 1) xs)) is
    ∙ ap (λ rest. take i xs ∷ slice_split p rest) (sym (rest_of xs i))

pub part_is_all : (p : ℕ → Bool) (xs : List ℕ) → None ≡ position p xs → slice_split p xs ≡ xs ∷ []
part_is_all p xs e = none_passes p xs (no_place (ltb (position_or_len p xs) (length xs)) (position_or_len p xs) (sym e))
