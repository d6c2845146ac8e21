-- detail
-- A key of a rack file that isn't accepted (own).
use Rattle.std.specs.Prelude.{ℕ, ◌≤◌, List}
use Rattle.rack_file.specs.declared.misread.Place.{Place}
use Rattle.rack_file.specs.declared.misread.Place.TheVariants.{Rack, Line, Slave}
use Rattle.rack_file.specs.declared.misread.Cause.{Cause}

pub record KeyFault : Type 0 where
  pub place : Place
  pub key : List ℕ
  pub cause : Cause

-- the place is the file itself, or is in one of its lines, of which there are `lines`
abbrev pub IsWithin : ℕ → Place → Type 0
IsWithin lines Rack = Unit {0}
IsWithin lines (Line line) = (1 ≤ line) × (line ≤ lines)
IsWithin lines (Slave line slave) = (1 ≤ line) × (line ≤ lines) × (1 ≤ slave)
