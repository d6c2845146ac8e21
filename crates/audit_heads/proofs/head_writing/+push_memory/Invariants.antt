use Rattle.std.proofs.Common.{length}
use Rattle.audit_heads.proofs.head_writing.+push_memory.Given as goal

abbrev pub decreases-push_memory : goal.decreases-push_memory
decreases-push_memory l = length l.entries.now
