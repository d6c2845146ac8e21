use Rattle.std.proofs.Common.{length}
use Rattle.gsd_slaves.proofs.hints.+push_beginning.Given as goal

abbrev pub decreases-push_beginning : goal.decreases-push_beginning
decreases-push_beginning l = length l.modules.now
