use Rattle.std.proofs.Common.{length}
use Rattle.gsd_files.proofs.values.+with_octets.Given as goal

abbrev pub decreases-with_octets : goal.decreases-with_octets
decreases-with_octets l = length l.text.now
