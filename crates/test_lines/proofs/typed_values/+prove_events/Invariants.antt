use Rattle.std.proofs.Common.{length}
use Rattle.test_lines.proofs.typed_values.+prove_events.Given as goal

abbrev pub decreases-prove_events : goal.decreases-prove_events
decreases-prove_events l = length l.events.now
