-- helper
-- Lists read from heads and links, and the number of their records.
use Rattle.std.specs.Prelude.{ℕ, zero, suc, ◌+◌, List, [], ◌∷◌, length, Option, Some, None, slice_get, slice_index_or}
use Rattle.std.specs.Option.{option_and_then}
use Rattle.dp_owners.specs.declared.links.Links.{Links}
use Rattle.dp_owners.specs.declared.owners.Owners.{Owners}

-- the record after one, by its links (own)
abbrev pub next_of : List Links → Option ℕ → Option ℕ
next_of links at = option_and_then (λ own. own.next) (option_and_then (slice_get links) at)

-- the records passed in at most this number of steps along the links (own)
unfoldable pub steps_along : ℕ → List Links → Option ℕ → List ℕ
steps_along zero links at = []
steps_along (suc steps) links None = []
steps_along (suc steps) links (Some at) = at ∷ steps_along steps links (next_of links (Some at))

-- a master's list, read from its head and the links in at most one step for each record (own)
abbrev pub list_of : Owners → List Links → ℕ → List ℕ
list_of owners links master = steps_along (length links) links (slice_index_or owners.heads master None)

-- the number of records that the lists of the masters below a number have together (own)
unfoldable pub listed_count : ℕ → (ℕ → List ℕ) → ℕ
listed_count zero lists = 0
listed_count (suc masters) lists = length (lists masters) + listed_count masters lists
