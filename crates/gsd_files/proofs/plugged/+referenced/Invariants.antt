use Rattle.std.proofs.Common.{length}
use Rattle.gsd_files.proofs.plugged.+referenced.Given as goal

abbrev pub decreases-referenced : goal.decreases-referenced
decreases-referenced l = length l.modules.now
