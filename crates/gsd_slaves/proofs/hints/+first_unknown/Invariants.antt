use Rattle.std.proofs.Common.{length}
use Rattle.gsd_slaves.proofs.hints.+first_unknown.Given as goal

abbrev pub decreases-first_unknown : goal.decreases-first_unknown
decreases-first_unknown l = length l.names.now
