use Rattle.std.proofs.Common.{length}
use Rattle.dp_line.proofs.needed_places.+have_room.Given as goal

abbrev pub decreases-have_room : goal.decreases-have_room
decreases-have_room l = length l.slaves.now
