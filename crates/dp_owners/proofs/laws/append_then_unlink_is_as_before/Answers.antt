use Rattle.std.proofs.Common.{◌≡◌, ℕ, eqb, List, [], ◌∷◌, ◌++◌, refl, sym, ap, ◌∙◌}
use Rattle.std.proofs.lemmas.Bool.{ne_eqb, eq-eqb}
use Rattle.dp_owners.specs.Positions.{without, NotIn}
use Rattle.dp_owners.specs.Threaded.{appended, unlinked}
use Rattle.dp_owners.proofs.Positions.{IsNot, all_join, append_nil, without_one}
use Rattle.dp_owners.proofs.Changes.{each_by}
use Rattle.dp_owners.proofs.Same.{same_all}
use Rattle.dp_owners.proofs.laws.append_then_unlink_is_as_before.Goals as goal

as_before : (lists : ℕ → List ℕ) (m at : ℕ) → NotIn at (lists m) → without at (appended lists m at m) ≡ lists m
as_before lists m at out =
    let here : appended lists m at m ≡ lists m ++ at ∷ [] = rw (eq-eqb m m refl) refl in
    ap (without at) here ∙ without_one (lists m) at [] (all_join (IsNot at) (lists m) [] out tt) ∙ append_nil (lists m)

all_as_before : (lists : ℕ → List ℕ) (m at n : ℕ) → NotIn at (lists m) → unlinked (appended lists m at) m at n ≡ lists n
all_as_before lists m at n out =
    each_by (λ k xs. xs ≡ lists k) (appended lists m at) m (without at (appended lists m at m)) n (eqb n m) refl (as_before lists m at out)
    (λ other. rw (ne_eqb n m other) refl)

pub returns-clause-lists : goal.returns-clause-lists
returns-clause-lists c lists m at n small free = all_as_before lists m at n (free m small)

pub returns-clause-links : goal.returns-clause-links
returns-clause-links c owners later links after lists m at small free one two long =
    same_all owners later links after lists (unlinked (appended lists m at) m at) one two long (λ n below. sym (all_as_before lists m at n (free m small)))
