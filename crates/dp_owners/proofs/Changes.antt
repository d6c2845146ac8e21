-- A change of one master's list: what holds for each list, and the ends of the lists.
use Rattle.std.proofs.Common.{◌≡◌, ◌≢◌, ℕ, ◌<◌, Bool, true, false, cond, eqb, List, [], ◌∷◌, ◌++◌, length, get_or, Option, Some, None, refl, sym, ap, subst, ◌∙◌, arith, get_or-set_same, get_or-set_other, length-set}
use Rattle.std.proofs.lemmas.Bool.{eqb-true, eqb-false, eq-eqb}
use Rattle.dp_owners.specs.declared.owners.TheConstants.{MOST_MASTERS}
use Rattle.dp_owners.specs.Positions.{first_or, last_or}
use Rattle.dp_owners.specs.Mending.{with_end}
use Rattle.dp_owners.proofs.Positions.{last_join}

-- the lists with another list for one master
abbrev pub changed : (ℕ → List ℕ) → ℕ → List ℕ → ℕ → List ℕ
changed lists m new n = cond (eqb n m) new (lists n)

pub each_by : (P : ℕ → List ℕ → Type 0) (lists : ℕ → List ℕ) (m : ℕ) (new : List ℕ) (n : ℕ) (b : Bool) → eqb n m ≡ b → P m new → (n ≢ m → P n (lists n)) → P n (cond b new (lists n))
each_by P lists m new n true e here others = subst (λ k. P k new) (sym (eqb-true n m e)) here
each_by P lists m new n false e here others = others (eqb-false n m e)

pub each : (P : ℕ → List ℕ → Type 0) (lists : ℕ → List ℕ) (m : ℕ) (new : List ℕ) → P m new → ((n : ℕ) → n < MOST_MASTERS → n ≢ m → P n (lists n)) → (n : ℕ) → n < MOST_MASTERS → P n (changed lists m new n)
each P lists m new here others n small = each_by P lists m new n (eqb n m) refl here (others n small)

-- what held for each list before
before_by : (P : List ℕ → Type 0) (lists : ℕ → List ℕ) (m : ℕ) (new : List ℕ) (n : ℕ) (b : Bool) → eqb n m ≡ b → P (lists m) → P (cond b new (lists n)) → P (lists n)
before_by P lists m new n true e here after = subst (λ k. P (lists k)) (sym (eqb-true n m e)) here
before_by P lists m new n false e here after = after

pub at_changed : (P : List ℕ → Type 0) (lists : ℕ → List ℕ) (m : ℕ) (new : List ℕ) → P (changed lists m new m) → P new
at_changed P lists m new = subst (λ b. P (cond b new (lists m))) (eq-eqb m m refl)

pub each_before : (P : List ℕ → Type 0) (lists : ℕ → List ℕ) (m : ℕ) (new : List ℕ) → m < MOST_MASTERS → (P new → P (lists m))
    → ((n : ℕ) → n < MOST_MASTERS → P (changed lists m new n)) → (n : ℕ) → n < MOST_MASTERS → P (lists n)
each_before P lists m new small back after n below =
    before_by P lists m new n (eqb n m) refl (back (at_changed P lists m new (after m small))) (after n below)

-- the ends
pub length-with_end : (beside : Option ℕ) (m : ℕ) (end : Option ℕ) (ends : List (Option ℕ)) → length (with_end beside m end ends) ≡ length ends
length-with_end None m end ends = length-set ends m end
length-with_end (Some x) m end ends = refl

pub end_other : (beside : Option ℕ) (m n : ℕ) (end : Option ℕ) (ends : List (Option ℕ)) → n ≢ m → get_or (with_end beside m end ends) n None ≡ get_or ends n None
end_other None m n end ends other = get_or-set_other ends m n end None other
end_other (Some x) m n end ends other = refl

end_kept : (m x : ℕ) (xs : List ℕ) (end : Option ℕ) (ends : List (Option ℕ)) → with_end (last_or (Some x) xs) m end ends ≡ ends
end_kept m x [] end ends = refl
end_kept m x (y ∷ xs) end ends = end_kept m y xs end ends

-- the head of a list, if what comes after xs changes from ys to zs
pub head_here : (heads : List (Option ℕ)) (m : ℕ) (xs ys zs : List ℕ) → m < length heads → get_or heads m None ≡ first_or (xs ++ ys) None
    → get_or (with_end (last_or None xs) m (first_or zs None) heads) m None ≡ first_or (xs ++ zs) None
head_here heads m [] ys zs below e = get_or-set_same heads m (first_or zs None) None below
head_here heads m (x ∷ xs) ys zs below e = ap (λ ends. get_or ends m None) (end_kept m x xs (first_or zs None) heads) ∙ e

-- the tail of a list from which `at`, between xs and ys, is removed
pub tail_here : (tails : List (Option ℕ)) (m : ℕ) (xs : List ℕ) (at : ℕ) (ys : List ℕ) → m < length tails → get_or tails m None ≡ last_or None (xs ++ at ∷ ys)
    → get_or (with_end (first_or ys None) m (last_or None xs) tails) m None ≡ last_or None (xs ++ ys)
tail_here tails m xs at [] below e = get_or-set_same tails m (last_or None xs) None below ∙ sym (last_join None xs [])
tail_here tails m xs at (y ∷ ys) below e = e ∙ last_join None xs (at ∷ y ∷ ys) ∙ sym (last_join None xs (y ∷ ys))

pub among : (m : ℕ) (ends : List (Option ℕ)) → m < MOST_MASTERS → length ends ≡ MOST_MASTERS → m < length ends
among m ends small e = omega arith
