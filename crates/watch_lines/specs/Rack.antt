-- detail
-- The lines of a rack that are followed for the page (own).
use Rattle.std.specs.Prelude.{◌≡◌, ℕ, ◌+◌, ◌-◌, ◌^◌, min, List, Option, Some, None, slice_get, slice_set}
use Rattle.watch_lines.specs.Watched.{WatchedView}

-- the number of the next change; it stops at the largest number of 64 bits
abbrev pub next_number : ℕ → ℕ
next_number number = min (number + 1) (2 ^ 64 - 1)

-- this line changes so
pub record IsChangedAt (index : ℕ) (Changes : WatchedView → WatchedView → Type 0) (before : WatchedView) (old new : List WatchedView) : Type 0 where
  pub line : WatchedView
  pub changes : Changes before line
  pub others : new ≡ slice_set old index line

-- the line at this index, if there is one
abbrev pub ChangesFound : Option WatchedView → ℕ → (WatchedView → WatchedView → Type 0) → List WatchedView → List WatchedView → Type 0
ChangesFound None index Changes old new = new ≡ old
ChangesFound (Some before) index Changes old new = IsChangedAt index Changes before old new

-- the line at this index changes so, if there is one, and no other does
abbrev pub ChangesLine : ℕ → (WatchedView → WatchedView → Type 0) → List WatchedView → List WatchedView → Type 0
ChangesLine index Changes old new = ChangesFound (slice_get old index) index Changes old new
