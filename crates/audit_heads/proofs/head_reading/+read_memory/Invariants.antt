use Rattle.std.proofs.Common.{length}
use Rattle.audit_heads.proofs.head_reading.+read_memory.Given as goal

abbrev pub decreases-read_memory : goal.decreases-read_memory
decreases-read_memory l = length l.masters.now
