use Rattle.std.proofs.Common.{length}
use Rattle.rack_file.proofs.reading.+check_openings.Given as goal

abbrev pub decreases-check_openings : goal.decreases-check_openings
decreases-check_openings l = length l.lines.now
