use Rattle.std.proofs.Common.{length}
use Rattle.explain_octets.proofs.configurations.+write_identifiers.Given as goal

abbrev pub decreases-write_identifiers : goal.decreases-write_identifiers
decreases-write_identifiers g l = length l.octets.now
