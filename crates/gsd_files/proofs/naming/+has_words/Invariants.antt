use Rattle.std.proofs.Common.{length}
use Rattle.gsd_files.proofs.naming.+has_words.Given as goal

abbrev pub decreases-has_words : goal.decreases-has_words
decreases-has_words l = length l.words.now
