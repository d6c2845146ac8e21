use Rattle.std.proofs.Common.{length}
use Rattle.gsd_slaves.proofs.gsd.+line_numbered.Given as goal

abbrev pub decreases-line_numbered : goal.decreases-line_numbered
decreases-line_numbered l = length l.lines.now
