use Rattle.std.proofs.Common.{◌≡◌, ℕ, ◌+◌, List, [], ◌∷◌, ◌++◌, length, ap, subst, ◌∙◌, arith, length-append}
use Rattle.dp_owners.specs.declared.owners.TheConstants.{MOST_MASTERS}
use Rattle.dp_owners.specs.Positions.{IsIn, IsDistinct, without}
use Rattle.dp_owners.proofs.Positions.{out_of_rest, without_one}
use Rattle.dp_owners.proofs.Counts.{all_fit, count_changed}
use Rattle.dp_owners.proofs.laws.lengths_add_up.Goals as goal

length-without : (at : ℕ) (list : List ℕ) → IsDistinct list → IsIn at list → length (without at list) + 1 ≡ length list
length-without at list d there =
    let left : without at list ≡ there.0 ++ there.1 = ap (without at) there.2 ∙ without_one there.0 at there.1 (out_of_rest there.0 at there.1 (subst IsDistinct there.2 d)) in
    omega (arith, ap (λ (xs : List ℕ). length xs) left, ap (λ (xs : List ℕ). length xs) there.2, length-append there.0 there.1, length-append there.0 (at ∷ there.1))

pub returns-clause-most : goal.returns-clause-most
returns-clause-most c = all_fit

pub returns-clause-one_more : goal.returns-clause-one_more
returns-clause-one_more c lists m at small =
    omega (arith, count_changed MOST_MASTERS m lists (lists m ++ at ∷ []) small, length-append (lists m) (at ∷ []))

pub returns-clause-one_less : goal.returns-clause-one_less
returns-clause-one_less c owners links lists m at small threaded there =
    omega (arith, count_changed MOST_MASTERS m lists (without at (lists m)) small, length-without at (lists m) (threaded.distinct m small) there)
