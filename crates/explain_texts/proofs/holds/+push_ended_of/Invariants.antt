use Rattle.std.proofs.Common.{length}
use Rattle.explain_texts.proofs.holds.+push_ended_of.Given as goal

abbrev pub decreases-push_ended_of : goal.decreases-push_ended_of
decreases-push_ended_of l = length l.addresses.now
