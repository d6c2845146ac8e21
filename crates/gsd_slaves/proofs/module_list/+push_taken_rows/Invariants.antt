use Rattle.std.proofs.Common.{length}
use Rattle.gsd_slaves.proofs.module_list.+push_taken_rows.Given as goal

abbrev pub decreases-push_taken_rows : goal.decreases-push_taken_rows
decreases-push_taken_rows l = length l.modules.now
