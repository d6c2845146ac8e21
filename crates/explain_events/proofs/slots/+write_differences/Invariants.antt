use Rattle.std.proofs.Common.{◌+◌, length}
use Rattle.explain_events.proofs.slots.+write_differences.Given as goal

abbrev pub decreases-write_differences : goal.decreases-write_differences
decreases-write_differences g l = length l.sent.now + length l.own.now
