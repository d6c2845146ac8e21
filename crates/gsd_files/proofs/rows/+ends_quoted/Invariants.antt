use Rattle.std.proofs.Common.{length}
use Rattle.gsd_files.proofs.rows.+ends_quoted.Given as goal

abbrev pub decreases-ends_quoted : goal.decreases-ends_quoted
decreases-ends_quoted l = length l.line.now
