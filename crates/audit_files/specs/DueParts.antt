-- detail
-- The parts of an audit text that are due to be deleted (own).
use Rattle.std.specs.Prelude.{ℕ, zero, suc, ◌+◌, ◌-◌, List, [], ◌∷◌}
use Rattle.audit_files.specs.declared.due_parts.DueParts.{DueParts}

-- this many numbers above this one, in ascending order
unfoldable pub numbers_above : ℕ → ℕ → List ℕ
numbers_above before zero = []
numbers_above before (suc count) = (before + 1) ∷ numbers_above (before + 1) count

-- the parts that are due if this number of the newest ones stay and this one was handed over last, in ascending order
abbrev pub due_parts : ℕ → ℕ → ℕ → List ℕ
due_parts keep newest handed_over = numbers_above handed_over (newest - keep - handed_over)

-- the parts that are due, in ascending order: those behind the one that was handed over last, up to the newest one that is to be deleted
abbrev pub due : DueParts → List ℕ
due parts = numbers_above parts.handed_over (parts.to_delete - parts.handed_over)
