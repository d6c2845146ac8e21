use Rattle.std.proofs.Common.{◌≡◌, ℕ, ◌<◌, ◌≤◌, get_or}
use Rattle.audit_files.specs.declared.audit_name.AuditName.{AuditName}
use Rattle.audit_files.specs.TextNumbers.{IsNumberIn}
use Rattle.audit_files.proofs.text_number.highest_number.Given as goal

-- the number is at least that of each name that was passed, and one of them has it
abbrev pub invariant-loop-name : goal.invariant-loop-name
invariant-loop-name l = ((k : ℕ) (d : AuditName) → k < l.name-index → (get_or l.names k d).line ≡ l.line → (get_or l.names k d).number ≤ l.highest)
    × (0 < l.highest → IsNumberIn l.line l.names l.highest)
