-- helper
-- The lists of the masters, threaded through records.
use Rattle.std.specs.Prelude.{◌≡◌, ℕ, ◌<◌, ◌==◌, if◌then◌else◌, List, [], ◌∷◌, ◌++◌, length, Some, None, slice_get, slice_index_or}
use Rattle.std.specs.List.{AllByRecursion}
use Rattle.dp_owners.specs.declared.owners.TheConstants.{MOST_MASTERS}
use Rattle.dp_owners.specs.declared.links.Links.{Links}
use Rattle.dp_owners.specs.declared.owners.Owners.{Owners}
use Rattle.dp_owners.specs.Positions.{first_or, last_or, without, NotIn, IsIn, IsDistinct}
use Rattle.dp_owners.specs.Chain.{no_links, IsChain}

-- the record is in no list (own)
abbrev pub IsFree : ℕ → (ℕ → List ℕ) → Type 0
IsFree at lists = (master : ℕ) → master < MOST_MASTERS → NotIn at (lists master)

-- the record is in this master's list (own)
abbrev pub IsListed : ℕ → ℕ → (ℕ → List ℕ) → Type 0
IsListed master at lists = IsIn at (lists master)

-- each record of the list has this master as its home (own)
abbrev pub AreAt : (ℕ → ℕ) → ℕ → List ℕ → Type 0
AreAt home master list = AllByRecursion (λ at. home at ≡ master) list

-- these are the lists of the masters, as the heads and the links of the records give them (own)
pub record IsThreaded (owners : Owners) (links : List Links) (lists : ℕ → List ℕ) : Type 0 where
  -- there is a head and a tail for each master
  pub ends : (length owners.heads ≡ MOST_MASTERS) × (length owners.tails ≡ MOST_MASTERS)
  -- they are the first and the last of the master's list
  pub heads : (master : ℕ) → master < MOST_MASTERS → slice_index_or owners.heads master None ≡ first_or (lists master) None
  pub tails : (master : ℕ) → master < MOST_MASTERS → slice_index_or owners.tails master None ≡ last_or None (lists master)
  -- between them each record is linked to those beside it, so that the list reads backwards as its reverse
  pub chains : (master : ℕ) → master < MOST_MASTERS → IsChain links None (lists master) None
  -- no record is twice in a list
  pub distinct : (master : ℕ) → master < MOST_MASTERS → IsDistinct (lists master)
  -- each record has at most one home, so that none is in the lists of two masters
  pub home : ℕ → ℕ
  pub at_home : (master : ℕ) → master < MOST_MASTERS → AreAt home master (lists master)
  -- a record in no list has no links
  pub unlisted : (at : ℕ) → at < length links → IsFree at lists → slice_get links at ≡ Some no_links

-- some lists are threaded through the records (own)
abbrev pub HasLists : Owners → List Links → Type 0
HasLists owners links = (lists : ℕ → List ℕ) × IsThreaded owners links lists

-- some lists are threaded through the records, and P holds for them (own)
abbrev pub IsThreadedWith : Owners → List Links → ((ℕ → List ℕ) → Type 0) → Type 0
IsThreadedWith owners links P = (lists : ℕ → List ℕ) × (IsThreaded owners links lists × P lists)

-- the lists after a record is appended to one master's list (own)
abbrev pub appended : (ℕ → List ℕ) → ℕ → ℕ → ℕ → List ℕ
appended lists master at other = if other == master then lists master ++ at ∷ [] else lists other

-- the lists after a record is removed from one master's list (own)
abbrev pub unlinked : (ℕ → List ℕ) → ℕ → ℕ → ℕ → List ℕ
unlinked lists master at other = if other == master then without at (lists master) else lists other
