use Rattle.std.proofs.Common.{length}
use Rattle.dp_line.proofs.line_state.restoring.+have_own_places.Given as goal

abbrev pub decreases-have_own_places : goal.decreases-have_own_places
decreases-have_own_places l = length l.slaves.now
