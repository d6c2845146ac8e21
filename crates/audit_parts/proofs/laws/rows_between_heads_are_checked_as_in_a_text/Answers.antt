use Rattle.audit_parts.proofs.Alone.{rows_alike}
use Rattle.audit_parts.proofs.laws.rows_between_heads_are_checked_as_in_a_text.Goals as goal

pub returns : goal.returns
returns c = rows_alike
