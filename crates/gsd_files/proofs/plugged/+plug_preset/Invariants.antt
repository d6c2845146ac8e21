use Rattle.std.proofs.Common.{length}
use Rattle.gsd_files.proofs.plugged.+plug_preset.Given as goal

abbrev pub decreases-plug_preset : goal.decreases-plug_preset
decreases-plug_preset l = length l.modules.now
