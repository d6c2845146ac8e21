use Rattle.std.proofs.Common.{◌≡◌, ◌∷◌, length}
use Rattle.audit_parts.specs.Parts.{rows_checked}
use Rattle.audit_parts.proofs.parts_check.check_rows.Given as goal

abbrev pub invariant-loop-next : goal.invariant-loop-next
invariant-loop-next l = rows_checked l.check (l.row ∷ l.rows) ≡ rows_checked l.fn.check l.fn.rows

abbrev pub decreases-loop-next : goal.decreases-loop-next
decreases-loop-next l = length l.rows
