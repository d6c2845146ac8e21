use Rattle.std.proofs.Common.{length}
use Rattle.gsd_files.proofs.values.+name_from.Given as goal

abbrev pub decreases-name_from : goal.decreases-name_from
decreases-name_from l = length l.text.now
