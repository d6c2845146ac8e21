use Rattle.std.proofs.Common.{length}
use Rattle.gsd_files.proofs.writing.+push_octets.Given as goal

abbrev pub decreases-push_octets : goal.decreases-push_octets
decreases-push_octets l = length l.octets.now
