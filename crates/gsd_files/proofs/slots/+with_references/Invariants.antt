use Rattle.std.proofs.Common.{length}
use Rattle.gsd_files.proofs.slots.+with_references.Given as goal

abbrev pub decreases-with_references : goal.decreases-with_references
decreases-with_references l = length l.text.now
