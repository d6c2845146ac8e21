use Rattle.std.proofs.Common.{length}
use Rattle.watch_json.proofs.masters.+write_masters.Given as goal

abbrev pub decreases-write_masters : goal.decreases-write_masters
decreases-write_masters g l = length l.senders.now
