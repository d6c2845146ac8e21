use Rattle.std.proofs.Common.{length}
use Rattle.gsd_files.proofs.writing.+push_modules.Given as goal

abbrev pub decreases-push_modules : goal.decreases-push_modules
decreases-push_modules l = length l.cfgs.now
