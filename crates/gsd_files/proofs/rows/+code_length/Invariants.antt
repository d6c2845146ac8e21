use Rattle.std.proofs.Common.{length}
use Rattle.gsd_files.proofs.rows.+code_length.Given as goal

abbrev pub decreases-code_length : goal.decreases-code_length
decreases-code_length l = length l.line.now
