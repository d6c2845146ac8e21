use Rattle.std.proofs.Common.{length}
use Rattle.rack_file.proofs.reading.+has_number_twice.Given as goal

abbrev pub decreases-has_number_twice : goal.decreases-has_number_twice
decreases-has_number_twice l = length l.lines.now
