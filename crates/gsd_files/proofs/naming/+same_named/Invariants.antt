use Rattle.std.proofs.Common.{length}
use Rattle.gsd_files.proofs.naming.+same_named.Given as goal

abbrev pub decreases-same_named : goal.decreases-same_named
decreases-same_named l = length l.modules.now
