use Rattle.std.proofs.Common.{length}
use Rattle.explain_texts.proofs.json_counts.+write_ways.Given as goal

abbrev pub decreases-write_ways : goal.decreases-write_ways
decreases-write_ways g l = length l.ways.now
