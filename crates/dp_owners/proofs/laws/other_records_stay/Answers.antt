use Rattle.std.proofs.Common.{◌≡◌, ◌≢◌, ℕ, Bool, true, false, cond, eqb, List, [], ◌∷◌, ◌++◌, refl, sym, ap, subst, ◌∙◌, append_assoc}
use Rattle.std.specs.Prelude.{not}
use Rattle.std.proofs.lemmas.Bool.{eqb-true, ne_eqb}
use Rattle.dp_owners.specs.Positions.{NotIn, IsIn, without}
use Rattle.dp_owners.proofs.Positions.{IsNot, all_join}
use Rattle.dp_owners.proofs.Changes.{each}
use Rattle.dp_owners.proofs.laws.other_records_stay.Goals as goal

out_by : (at other x : ℕ) (xs : List ℕ) (b : Bool) → x ≢ other → NotIn other xs → NotIn other (cond b (x ∷ xs) xs)
out_by at other x xs true apart out = (apart, out)
out_by at other x xs false apart out = out

out_without : (at other : ℕ) (xs : List ℕ) → NotIn other xs → NotIn other (without at xs)
out_without at other [] out = tt
out_without at other (x ∷ xs) out = out_by at other x (without at xs) (not (eqb x at)) out.0 (out_without at other xs out.1)

in_by : (other x : ℕ) (xs : List ℕ) (b : Bool) → IsIn other xs → IsIn other (cond b (x ∷ xs) xs)
in_by other x xs true there = (x ∷ there.0, there.1, ap (λ ys. x ∷ ys) there.2)
in_by other x xs false there = there

in_split : (at other : ℕ) (before after : List ℕ) → other ≢ at → IsIn other (without at (before ++ other ∷ after))
in_split at other [] after apart = rw (ne_eqb other at apart) ([], without at after, refl)
in_split at other (x ∷ before) after apart = in_by other x (without at (before ++ other ∷ after)) (not (eqb x at)) (in_split at other before after apart)

in_without : (at other : ℕ) (xs : List ℕ) → other ≢ at → IsIn other xs → IsIn other (without at xs)
in_without at other xs apart there = subst (λ ys. IsIn other (without at ys)) (sym there.2) (in_split at other there.0 there.1 apart)

in_more : (at other : ℕ) (xs : List ℕ) → IsIn other xs → IsIn other (xs ++ at ∷ [])
in_more at other xs there = (there.0, there.1 ++ at ∷ [], ap (λ ys. ys ++ at ∷ []) there.2 ∙ append_assoc there.0 (other ∷ there.1) (at ∷ []))

-- if a change of one list keeps the record there, the record stays in its list
listed_by : (lists : ℕ → List ℕ) (m owner other : ℕ) (new : List ℕ) (b : Bool) → eqb owner m ≡ b → (IsIn other (lists m) → IsIn other new) → IsIn other (lists owner) → IsIn other (cond b new (lists owner))
listed_by lists m owner other new true e moved there = moved (subst (λ k. IsIn other (lists k)) (eqb-true owner m e) there)
listed_by lists m owner other new false e moved there = there

pub returns-clause-free_after_append : goal.returns-clause-free_after_append
returns-clause-free_after_append c lists m at other small apart free =
    each (λ n xs. NotIn other xs) lists m (lists m ++ at ∷ []) (all_join (IsNot other) (lists m) (at ∷ []) (free m small) (λ e. apart (sym e), tt)) (λ n below differs. free n below)

pub returns-clause-free_after_unlink : goal.returns-clause-free_after_unlink
returns-clause-free_after_unlink c lists m at other small free =
    each (λ n xs. NotIn other xs) lists m (without at (lists m)) (out_without at other (lists m) (free m small)) (λ n below differs. free n below)

pub returns-clause-listed_after_append : goal.returns-clause-listed_after_append
returns-clause-listed_after_append c lists m at owner other there =
    listed_by lists m owner other (lists m ++ at ∷ []) (eqb owner m) refl (in_more at other (lists m)) there

pub returns-clause-listed_after_unlink : goal.returns-clause-listed_after_unlink
returns-clause-listed_after_unlink c lists m at owner other apart there =
    listed_by lists m owner other (without at (lists m)) (eqb owner m) refl (in_without at other (lists m) apart) there
