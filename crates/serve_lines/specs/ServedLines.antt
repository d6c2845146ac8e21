-- detail
-- The lines of a rack that can be served, and their order (own).
use Rattle.std.specs.Prelude.{◌≡◌, ℕ, Bool, true, false, List, [], ◌∷◌, map, Option, Some, None, option_and_then, option_map, Result, Ok, Err, Vec, IsPermutation}
use Rattle.std.specs.List.Sorted.{IsNonDecreasingBy}
use Rattle.std.specs.declared.alloc.Global.{Global}
use Rattle.dp_line.specs.Endless.{endless_places}
use Rattle.dp_line.specs.declared.description.LineSpec.{LineSpec}
use Rattle.rack_file.specs.declared.fault.RackFault.{RackFault}
use Rattle.rack_file.specs.declared.fault.RackFault.TheVariants as racks
use Rattle.rack_file.specs.declared.rack.RackLine.{RackLine}
use Rattle.serve_lines.specs.declared.served_line.ServedLine.{ServedLine}

-- a line with its ports, if it has one for masters and one for its operator
abbrev pub with_both : LineSpec → Option ℕ → Option ℕ → Option ServedLine
with_both spec (Some listen) (Some operator) = Some (record { spec = spec; listen = listen; operator = operator })
with_both spec listen operator = None

abbrev pub served_line : RackLine → Option ServedLine
served_line line = with_both line.spec line.listen line.operator

-- all lines with their ports, if each has both
abbrev pub all_served : List RackLine → Option (List ServedLine)
all_served [] = Some []
all_served (line ∷ lines) = option_and_then (λ first. option_map (λ others. first ∷ others) (all_served lines)) (served_line line)

-- a line as it is opened: an endless line has a fixed number of places
abbrev pub as_opened : Bool → ServedLine → ServedLine
as_opened true line = record line { spec = record line.spec { capacity = endless_places } }
as_opened false line = line

abbrev pub number_of : ServedLine → ℕ
number_of line = line.spec.number

abbrev pub line_numbers : List ServedLine → List ℕ
line_numbers lines = map number_of lines

-- the descriptions of lines
abbrev pub specs_of : List ServedLine → List LineSpec
specs_of lines = map (λ line. line.spec) lines

-- the masters of each line
abbrev pub masters_of : List ServedLine → List (List ℕ)
masters_of lines = map (λ line. line.spec.masters.items) lines

-- these lines, in ascending order of their numbers
pub record AreInOrder (lines served : List ServedLine) : Type 0 where
  pub same : IsPermutation lines served
  pub ascend : IsNonDecreasingBy number_of served

-- lines are put in order, and a key is bad exactly if a port is missing; memory may be refused
abbrev pub ArePutInOrder : Option (List ServedLine) → Result (Vec ServedLine Global) RackFault → Type 0
ArePutInOrder all (Ok served) = (lines : List ServedLine) × (all ≡ Some lines) × AreInOrder lines served.items
ArePutInOrder all (Err racks.BadKey) = all ≡ None
ArePutInOrder all (Err racks.OutOfMemory) = Unit {0}
ArePutInOrder all (Err other) = ⊥
