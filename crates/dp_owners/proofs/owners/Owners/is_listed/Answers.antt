use Rattle.std.proofs.Common.{◌≡◌, ℕ, Bool, true, false, eqb, List, [], ◌∷◌, refl, sym, ap, ◌∙◌}
use Rattle.std.specs.Prelude.{◌||◌}
use Rattle.std.specs.List.{list_any}
use Rattle.std.proofs.lemmas.Bool.{eqb-true, eqb-false}
use Rattle.dp_owners.specs.Positions.{NotIn, IsIn}
use Rattle.dp_owners.proofs.owners.Owners.is_listed.Goals as goal

found_by : (at x : ℕ) (xs : List ℕ) (b : Bool) → eqb x at ≡ b → (b || list_any (λ y. eqb y at) xs) ≡ true → (list_any (λ y. eqb y at) xs ≡ true → IsIn at xs) → IsIn at (x ∷ xs)
found_by at x xs true e found later = ([], xs, ap (λ y. y ∷ xs) (eqb-true x at e))
found_by at x xs false e found later = let there = later found in (x ∷ there.0, there.1, ap (λ ys. x ∷ ys) there.2)

found_in : (at : ℕ) (xs : List ℕ) → list_any (λ y. eqb y at) xs ≡ true → IsIn at xs
found_in at [] found = absurd cc
found_in at (x ∷ xs) found = found_by at x xs (eqb x at) refl found (found_in at xs)

missed_by : (at x : ℕ) (xs : List ℕ) (b : Bool) → eqb x at ≡ b → (b || list_any (λ y. eqb y at) xs) ≡ false → (list_any (λ y. eqb y at) xs ≡ false → NotIn at xs) → NotIn at (x ∷ xs)
missed_by at x xs true e missed later = absurd cc
missed_by at x xs false e missed later = (eqb-false x at e, later missed)

missed_in : (at : ℕ) (xs : List ℕ) → list_any (λ y. eqb y at) xs ≡ false → NotIn at xs
missed_in at [] missed = tt
missed_in at (x ∷ xs) missed = missed_by at x xs (eqb x at) refl missed (missed_in at xs)

pub returns-clause-listed : goal.returns-clause-listed
returns-clause-listed g c lists threaded found =
    found_in c.args.at (lists c.args.master) (sym (ap (list_any (λ y. eqb y c.args.at)) (c.as_slice.ensures.value ∙ c.list-list.ensures lists threaded)) ∙ sym c.contains.ensures.value ∙ found)

pub returns-clause-not_listed : goal.returns-clause-not_listed
returns-clause-not_listed g c lists threaded found =
    missed_in c.args.at (lists c.args.master) (sym (ap (list_any (λ y. eqb y c.args.at)) (c.as_slice.ensures.value ∙ c.list-list.ensures lists threaded)) ∙ sym c.contains.ensures.value ∙ found)
