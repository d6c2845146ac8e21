-- detail
-- Which entries stay longer than others (own).
use Rattle.std.specs.Prelude.{codes, ◌≡◌, ℕ, ◌||◌, Bool, List, Option, is_some}
use Rattle.memchr.specs.Find.{FindsNeedle}

-- what the line of JSON of an entry has if the entry is a fault of the bus, and if it changed a slave. No string of JSON has
-- these octets, since quotation marks are escaped there
abbrev pub fault_mark : List ℕ
fault_mark = codes "\"fault\":true"

abbrev pub change_mark : List ℕ
change_mark = codes "\"changes\":[{"

-- the entry with this line of JSON is notable: it is a fault of the bus, or changed a slave
pub record IsNotable (text : List ℕ) (answer : Bool) : Type 0 where
  pub fault : Option ℕ
  pub change : Option ℕ
  pub finds_fault : FindsNeedle text fault_mark 0 fault
  pub finds_change : FindsNeedle text change_mark 0 change
  pub answered : answer ≡ (is_some fault || is_some change)
