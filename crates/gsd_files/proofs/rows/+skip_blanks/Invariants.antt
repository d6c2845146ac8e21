use Rattle.std.proofs.Common.{length}
use Rattle.gsd_files.proofs.rows.+skip_blanks.Given as goal

abbrev pub decreases-skip_blanks : goal.decreases-skip_blanks
decreases-skip_blanks l = length l.text.now
