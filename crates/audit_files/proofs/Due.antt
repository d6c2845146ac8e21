-- Which parts are due to be deleted.
use Rattle.std.proofs.Common.{◌≡◌, ℕ, ◌+◌, ◌-◌, ◌<◌, ◌≤◌, List, [], ◌∷◌, length, drop, slice_get, Some, zero, suc, refl, ap, arith, ◌∙◌}
use Rattle.audit_files.specs.DueParts.{numbers_above}

-- if a part is due, the oldest one is that behind the last one that was handed over
pub some_are_due : (before end : ℕ) → before < end → numbers_above before (end - before) ≡ (before + 1) ∷ numbers_above (before + 1) (end - (before + 1))
unfolding numbers_above
some_are_due before end is =
    let same : end - before ≡ suc (end - (before + 1)) = omega (arith, is) in
    ap (numbers_above before) same

pub none_is_due : (before end : ℕ) → end ≤ before → numbers_above before (end - before) ≡ []
unfolding numbers_above
none_is_due before end over =
    let none : end - before ≡ zero = omega (arith, over) in
    ap (numbers_above before) none

-- fewer are left without the oldest one
pub fewer_are_left : {A : Type 0} (l : List A) (oldest : A) → Some oldest ≡ slice_get l 0 → length (drop 1 l) < length l
fewer_are_left [] oldest is = absurd (grind (arith, is))
fewer_are_left (x ∷ l) oldest is = omega arith

pub number_at : (before count index : ℕ) → index < count → slice_get (numbers_above before count) index ≡ Some (before + 1 + index)
unfolding numbers_above
number_at before zero index below = absurd (omega (arith, below))
number_at before (suc count) zero below = let here : before + 1 ≡ before + 1 + 0 = omega arith in ap (λ (n : ℕ). Some n) here
number_at before (suc count) (suc index) below =
    let same : before + 1 + 1 + index ≡ before + 1 + suc index = omega arith in
    number_at (before + 1) count index (omega (arith, below)) ∙ ap (λ (n : ℕ). Some n) same

pub how_many : (before count : ℕ) → length (numbers_above before count) ≡ count
unfolding numbers_above
how_many before zero = refl
how_many before (suc count) = ap suc (how_many (before + 1) count)
