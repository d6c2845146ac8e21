use Rattle.audit_trail.proofs.Heads.{text_without_heads}
use Rattle.audit_trail.proofs.laws.parts_without_heads_are_the_text.Goals as goal

pub returns : goal.returns
returns c = text_without_heads
