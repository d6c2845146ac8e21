use Rattle.std.proofs.Common.{length}
use Rattle.gsd_files.proofs.keys.+has_part.Given as goal

abbrev pub decreases-has_part : goal.decreases-has_part
decreases-has_part l = length l.key.now
