use Rattle.std.proofs.Common.{◌-◌, length}
use Rattle.gsd_files.proofs.user.+pad.Given as goal

abbrev pub decreases-pad : goal.decreases-pad
decreases-pad l = l.count - length l.user.items
