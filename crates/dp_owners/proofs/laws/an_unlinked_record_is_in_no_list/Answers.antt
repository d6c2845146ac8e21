use Rattle.std.proofs.Common.{◌≡◌, ℕ, Bool, true, false, cond, eqb, List, [], ◌∷◌, ◌++◌, refl, sym, subst}
use Rattle.std.specs.Prelude.{not}
use Rattle.std.proofs.lemmas.Bool.{eqb-false}
use Rattle.dp_owners.specs.Positions.{NotIn, without}
use Rattle.dp_owners.specs.Threaded.{AreAt}
use Rattle.dp_owners.proofs.Positions.{all_back}
use Rattle.dp_owners.proofs.Homes.{IsAt, away}
use Rattle.dp_owners.proofs.Changes.{each}
use Rattle.dp_owners.proofs.laws.an_unlinked_record_is_in_no_list.Goals as goal

out_by : (at x : ℕ) (xs : List ℕ) (b : Bool) → eqb x at ≡ b → NotIn at xs → NotIn at (cond (not b) (x ∷ xs) xs)
out_by at x xs true e out = out
out_by at x xs false e out = (eqb-false x at e, out)

out_without : (at : ℕ) (xs : List ℕ) → NotIn at (without at xs)
out_without at [] = tt
out_without at (x ∷ xs) = out_by at x (without at xs) (eqb x at) refl (out_without at xs)

pub returns : goal.returns
returns c owners links lists m at small threaded there =
    let home : AreAt threaded.home m (there.0 ++ at ∷ there.1) = subst (AreAt threaded.home m) there.2 (threaded.at_home m small) in
    each (λ n xs. NotIn at xs) lists m (without at (lists m)) (out_without at (lists m))
    (λ n below other. away threaded.home m n at (lists n) (λ e. other (sym e)) (all_back (IsAt threaded.home m) there.0 (at ∷ there.1) home).0 (threaded.at_home n below))
