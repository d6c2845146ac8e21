use Rattle.std.proofs.Common.{length}
use Rattle.audit_heads.proofs.head_writing.+push_slaves.Given as goal

abbrev pub decreases-push_slaves : goal.decreases-push_slaves
decreases-push_slaves l = length l.slaves.now
