use Rattle.std.proofs.Common.{length}
use Rattle.audit_files.specs.DueParts.{due}
use Rattle.audit_files.proofs.old_parts.OldParts.put_due.Given as goal

-- each turn takes a due part away
abbrev pub decreases-loop-oldest : goal.decreases-loop-oldest
decreases-loop-oldest g l = length (due l.due)
