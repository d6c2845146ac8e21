use Rattle.std.proofs.Common.{length}
use Rattle.explain_octets.proofs.blocks.+write_blocks.Given as goal

abbrev pub decreases-write_blocks : goal.decreases-write_blocks
decreases-write_blocks g l = length l.octets.now
