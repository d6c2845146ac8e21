use Rattle.std.proofs.Common.{length}
use Rattle.explain_events.proofs.slots.+write_single.Given as goal

abbrev pub decreases-write_single : goal.decreases-write_single
decreases-write_single g l = length l.octets.now
