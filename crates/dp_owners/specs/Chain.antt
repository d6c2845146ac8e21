-- detail
-- Chains of linked records.
use Rattle.std.specs.Prelude.{◌≡◌, ℕ, List, [], ◌∷◌, Option, Some, None, slice_get}
use Rattle.std.specs.List.{AllByRecursion}
use Rattle.dp_owners.specs.declared.links.Links.{Links}
use Rattle.dp_owners.specs.Positions.{first_or}

-- the links of a record in no list (own)
abbrev pub no_links : Links
no_links = record { prev = None; next = None }

-- none of the records has links (own)
abbrev pub HaveNoLinks : List Links → Type 0
HaveNoLinks links = AllByRecursion (λ own. own ≡ no_links) links

-- each record of the list is linked to those beside it, and the ends to what comes before and after the list (own)
abbrev pub IsChain : List Links → Option ℕ → List ℕ → Option ℕ → Type 0
IsChain links before [] after = Unit {0}
IsChain links before (at ∷ others) after =
    (slice_get links at ≡ Some (record { prev = before; next = first_or others after })) × IsChain links (Some at) others after
