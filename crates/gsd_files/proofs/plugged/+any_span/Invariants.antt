use Rattle.std.proofs.Common.{length}
use Rattle.gsd_files.proofs.plugged.+any_span.Given as goal

abbrev pub decreases-any_span : goal.decreases-any_span
decreases-any_span l = length l.spans.now
