-- promise
-- What the seat that closes a line has (own).
use Rattle.std.specs.Prelude.{◌≡◌, ℕ, List, map, Some}
use Rattle.std.specs.List.{AllByRecursion}
use Rattle.atomic_table.specs.Seated.{TableId}
use Rattle.dp_line.specs.declared.description.LineSpec.{LineSpec}
use Rattle.dp_shared.specs.Content.{Content, IsHistory}
use Rattle.dp_shared.specs.LineLock.{IsNumbered, IsOf, IsPassOf, Seated, numbers_of}
use Rattle.dp_shared.specs.Numbers.{times}
use Rattle.dp_shared.specs.Passes.{PassIn}

-- a seat of the table of this line took this content, and these passes were joined into it
pub record HasGathered (table : TableId) (line : LineSpec) (passes : List PassIn) (seat_table : TableId) (seat : Seated) (content : Content) : Type 0 where
  pub ours : seat_table ≡ table
  pub note : seat.0.note ≡ Some content
  pub of_line : IsOf line content.book
  pub history : IsHistory content
  pub numbered : IsNumbered content
  pub all : (other : Content) → AllByRecursion (IsPassOf other) seat.0.passes → AllByRecursion (λ pass. IsPassOf other pass.view) passes
  pub numbers : (n : ℕ) → times n (numbers_of seat.0) ≡ times n (map (λ pass. pass.view.number) passes)
