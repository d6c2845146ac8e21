-- helper
-- Changes of links and ends, as private calls promise them. No public clause cites this module.
use Rattle.std.specs.Prelude.{ℕ, zero, suc, List, [], ◌∷◌, Option, Some, None, slice_set}
use Rattle.dp_owners.specs.declared.links.Links.{Links}

-- links with another neighbour after or before (own)
abbrev pub with_next : Option ℕ → Links → Links
with_next next own = record own { next = next }

abbrev pub with_prev : Option ℕ → Links → Links
with_prev prev own = record own { prev = prev }

-- links with both directions swapped (own)
abbrev pub mirrored : Links → Links
mirrored own = record { prev = own.next; next = own.prev }

-- the links with a change at one place (own)
abbrev pub changed_at : (Links → Links) → ℕ → List Links → List Links
changed_at change at [] = []
changed_at change zero (own ∷ links) = change own ∷ links
changed_at change (suc at) (own ∷ links) = own ∷ changed_at change at links

-- the links with a change at a place, if there is one (own)
abbrev pub changed_where : (Links → Links) → Option ℕ → List Links → List Links
changed_where change None links = links
changed_where change (Some at) links = changed_at change at links

-- the ends of the lists; the end of a master's list is replaced if there is no neighbour there (own)
abbrev pub with_end : Option ℕ → ℕ → Option ℕ → List (Option ℕ) → List (Option ℕ)
with_end None master end ends = slice_set ends master end
with_end (Some beside) master end ends = ends
