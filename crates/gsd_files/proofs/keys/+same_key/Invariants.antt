use Rattle.std.proofs.Common.{length}
use Rattle.gsd_files.proofs.keys.+same_key.Given as goal

abbrev pub decreases-same_key : goal.decreases-same_key
decreases-same_key l = length l.key.now
