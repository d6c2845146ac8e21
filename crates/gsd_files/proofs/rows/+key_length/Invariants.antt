use Rattle.std.proofs.Common.{length}
use Rattle.gsd_files.proofs.rows.+key_length.Given as goal

abbrev pub decreases-key_length : goal.decreases-key_length
decreases-key_length l = length l.body.now
