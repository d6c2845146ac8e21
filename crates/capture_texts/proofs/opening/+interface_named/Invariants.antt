use Rattle.std.proofs.Common.{length}
use Rattle.capture_texts.proofs.opening.+interface_named.Given as goal

abbrev pub decreases-interface_named : goal.decreases-interface_named
decreases-interface_named l = length l.lines.now
