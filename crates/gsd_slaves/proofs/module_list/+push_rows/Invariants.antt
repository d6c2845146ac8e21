use Rattle.std.proofs.Common.{length}
use Rattle.gsd_slaves.proofs.module_list.+push_rows.Given as goal

abbrev pub decreases-push_rows : goal.decreases-push_rows
decreases-push_rows l = length l.modules.now
