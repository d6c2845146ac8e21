use Rattle.std.proofs.Common.{length}
use Rattle.gsd_files.proofs.plugged.+plug_defaults.Given as goal

abbrev pub decreases-plug_defaults : goal.decreases-plug_defaults
decreases-plug_defaults l = length l.slots.now
