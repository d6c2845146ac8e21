use Rattle.std.proofs.Common.{◌≡◌, ℕ, ◌<◌, get_or}
use Rattle.audit_files.specs.declared.audit_name.AuditName.{AuditName}
use Rattle.audit_files.proofs.text_number.is_alone.Given as goal

-- no name that was passed is that of another file of the text
abbrev pub invariant-loop-name : goal.invariant-loop-name
invariant-loop-name l = (k : ℕ) (d : AuditName) → k < l.name-index → (get_or l.names k d).line ≡ l.own.line → (get_or l.names k d).number ≡ l.own.number
    → (get_or l.names k d).part ≡ l.own.part
