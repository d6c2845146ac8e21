use Rattle.std.proofs.Common.{length}
use Rattle.gsd_files.proofs.user.+default_with.Given as goal

abbrev pub decreases-default_with : goal.decreases-default_with
decreases-default_with l = length l.defaults.now
