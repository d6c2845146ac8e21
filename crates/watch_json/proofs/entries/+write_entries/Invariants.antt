use Rattle.std.proofs.Common.{length}
use Rattle.watch_json.proofs.entries.+write_entries.Given as goal

abbrev pub decreases-write_entries : goal.decreases-write_entries
decreases-write_entries g l = length l.entries.now
