use Rattle.std.proofs.Common.{length}
use Rattle.gsd_slaves.proofs.hints.+push_taken.Given as goal

abbrev pub decreases-push_taken : goal.decreases-push_taken
decreases-push_taken l = length l.modules.now
