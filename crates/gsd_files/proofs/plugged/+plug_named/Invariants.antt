use Rattle.std.proofs.Common.{length}
use Rattle.gsd_files.proofs.plugged.+plug_named.Given as goal

abbrev pub decreases-plug_named : goal.decreases-plug_named
decreases-plug_named l = length l.names.now
