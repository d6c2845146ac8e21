use Rattle.std.proofs.Common.{length}
use Rattle.explain_texts.proofs.tally_rows.+total.Given as goal

abbrev pub decreases-total : goal.decreases-total
decreases-total l = length l.tally.now
