use Rattle.std.proofs.Common.{length}
use Rattle.gsd_slaves.proofs.names.+latin_from.Given as goal

abbrev pub decreases-latin_from : goal.decreases-latin_from
decreases-latin_from l = length l.text.now
