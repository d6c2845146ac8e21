use Rattle.std.proofs.Common.{length}
use Rattle.watch_json.proofs.slaves.+write_slaves.Given as goal

abbrev pub decreases-write_slaves : goal.decreases-write_slaves
decreases-write_slaves g l = length l.specs.now
