use Rattle.std.proofs.Common.{length}
use Rattle.gsd_files.proofs.sizes.+sizes_of.Given as goal

abbrev pub decreases-sizes_of : goal.decreases-sizes_of
decreases-sizes_of l = length l.cfgs.now
