use Rattle.audit_parts.proofs.Heads.{head_changes_nothing}
use Rattle.audit_parts.proofs.laws.a_head_that_is_due_changes_nothing.Goals as goal

pub returns : goal.returns
returns c = head_changes_nothing
