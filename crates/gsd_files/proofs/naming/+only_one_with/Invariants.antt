use Rattle.std.proofs.Common.{length}
use Rattle.gsd_files.proofs.naming.+only_one_with.Given as goal

abbrev pub decreases-only_one_with : goal.decreases-only_one_with
decreases-only_one_with l = length l.modules.now
