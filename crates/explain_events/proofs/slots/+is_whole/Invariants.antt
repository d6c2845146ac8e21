use Rattle.std.proofs.Common.{length}
use Rattle.explain_events.proofs.slots.+is_whole.Given as goal

abbrev pub decreases-is_whole : goal.decreases-is_whole
decreases-is_whole l = length l.octets.now
