use Rattle.std.proofs.Common.{length}
use Rattle.gsd_files.proofs.plugged.+slot_numbered.Given as goal

abbrev pub decreases-slot_numbered : goal.decreases-slot_numbered
decreases-slot_numbered l = length l.slots.now
