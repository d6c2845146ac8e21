use Rattle.std.proofs.Common.{length}
use Rattle.watch_json.proofs.slave.+write_busy.Given as goal

abbrev pub decreases-write_busy : goal.decreases-write_busy
decreases-write_busy g l = length l.numbers.now
