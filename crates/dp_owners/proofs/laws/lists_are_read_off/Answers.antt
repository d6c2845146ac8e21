use Rattle.std.proofs.Common.{◌≡◌, ℕ, zero, suc, ◌≤◌, List, [], ◌∷◌, length, Option, None, Some, refl, sym, ap, ◌∙◌, arith}
use Rattle.std.specs.Option.{option_and_then}
use Rattle.dp_owners.specs.declared.links.Links.{Links}
use Rattle.dp_owners.specs.Positions.{first_or}
use Rattle.dp_owners.specs.Chain.{IsChain}
use Rattle.dp_owners.specs.Reading.{next_of, steps_along}
use Rattle.dp_owners.proofs.Counts.{list_fits}
use Rattle.dp_owners.proofs.laws.lists_are_read_off.Goals as goal

along : (n : ℕ) (links : List Links) (before : Option ℕ) (xs : List ℕ) → IsChain links before xs None → length xs ≤ n → steps_along n links (first_or xs None) ≡ xs
unfolding steps_along
along zero links before [] chain few = refl
along zero links before (x ∷ xs) chain few = absurd (omega arith)
along (suc n) links before [] chain few = refl
along (suc n) links before (x ∷ xs) chain few =
    let on : next_of links (Some x) ≡ first_or xs None = ap (option_and_then (λ (own : Links). own.next)) chain.0 in
    ap (λ rest. x ∷ rest) (ap (steps_along n links) on ∙ along n links (Some x) xs chain.1 (omega arith))

pub returns : goal.returns
returns c owners links lists m small threaded =
    sym (ap (steps_along (length links) links) (threaded.heads m small) ∙ along (length links) links None (lists m) (threaded.chains m small) (list_fits owners links lists m small threaded))
