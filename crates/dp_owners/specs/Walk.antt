-- helper
-- A walk along a list.
use Rattle.std.specs.Prelude.{◌≡◌, ℕ, ◌+◌, ◌≤◌, List, length, None}
use Rattle.dp_owners.specs.declared.cursor.Cursor.{Cursor}
use Rattle.dp_owners.specs.declared.links.Links.{Links}
use Rattle.dp_owners.specs.Positions.{first_or, last_or}
use Rattle.dp_owners.specs.Chain.{IsChain}

-- the cursor has given the first part of a list, in order, and has the rest still to give (own)
pub record IsWalk (cursor : Cursor) (links : List Links) (given rest : List ℕ) : Type 0 where
  -- it counts what it gave
  pub visits : cursor.visits ≡ length given
  -- it is at the first of the rest, and the links lead on from there
  pub at : cursor.at ≡ first_or rest None
  pub chain : IsChain links (last_or None given) rest None
  -- all of the list is among the records
  pub room : length given + length rest ≤ length links
