use Rattle.std.proofs.Common.{length}
use Rattle.explain_texts.proofs.holds.+push_lasting.Given as goal

abbrev pub decreases-push_lasting : goal.decreases-push_lasting
decreases-push_lasting l = length l.slaves.now
