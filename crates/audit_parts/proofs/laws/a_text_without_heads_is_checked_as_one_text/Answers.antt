use Rattle.audit_parts.proofs.Alone.{text_alike}
use Rattle.audit_parts.proofs.laws.a_text_without_heads_is_checked_as_one_text.Goals as goal

pub returns : goal.returns
returns c = text_alike
