use Rattle.std.proofs.Common.{length}
use Rattle.gsd_files.proofs.plugged.+has_preset.Given as goal

abbrev pub decreases-has_preset : goal.decreases-has_preset
decreases-has_preset l = length l.modules.now
