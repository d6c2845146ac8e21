-- detail
-- The names of trails, and what the evidence of one shows (own).
use Rattle.std.specs.Prelude.{◌≡◌, ℕ, ◌≤◌, List, length, Option, Contains}
use Rattle.atomic_table.specs.Seated.{TableId}
use Rattle.dp_shared.specs.Passes.{PassIn}
use Rattle.dp_audit.specs.declared.entry.Entry.{Entry}
use Rattle.audit_trail.specs.TextLines.{HasTextLine}
use Rattle.audit_trail.specs.Trails.{AreFrom, IsWhole, found, parts_text}

-- the name of a trail: the table of its line, the number of the line, and the number of its pass, which no other pass of the line has
pub record TrailName : Type 0 where
  pub table : TableId
  pub line : ℕ
  pub number : ℕ

abbrev pub name_of : PassIn → TrailName
name_of pass = record { table = pass.table; line = pass.line; number = pass.view.number }

-- the pass of one of these trails
abbrev pub IsOneOf : List TrailName → PassIn → Type 0
IsOneOf trails pass = ∥ Contains trails (name_of pass) ∥₁

-- One of these trails has written the text line of this place of the line. With its pass it has seen the entries of the places from 1 on, and this
-- place is among them: places count from 1. Since it was opened, its writer got the header and the text lines of all these entries, with the heads
-- of parts, and so the text line of the entry that it saw at this place.
pub record HasRow {W : Type 0} (contents : W → Option (List ℕ)) (trails : List TrailName) (line place : ℕ) : Type 0 where
  pub pass : PassIn
  pub one : IsOneOf trails pass
  pub of_line : pass.line ≡ line
  pub places : AreFrom 1 (found pass.view.looks)
  pub seen : place ≤ length (found pass.view.looks)
  pub version : ℕ
  pub row : 1 ≤ place → (entry : Entry) × HasTextLine version pass.line place pass.view.looks entry
  pub opened : W
  pub written : W
  pub whole : IsWhole (contents opened) (contents written) (parts_text version pass.line pass.view.looks)
