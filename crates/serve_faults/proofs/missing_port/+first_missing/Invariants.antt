use Rattle.std.proofs.Common.{length}
use Rattle.serve_faults.proofs.missing_port.+first_missing.Given as goal

abbrev pub decreases-first_missing : goal.decreases-first_missing
decreases-first_missing l = length l.lines.now
