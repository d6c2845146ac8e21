use Rattle.std.proofs.Common.{length}
use Rattle.dp_audit.proofs.Newest.{none_lost}
use Rattle.dp_audit.proofs.laws.nothing_is_forgotten_while_there_is_room.Goals as goal

pub returns : goal.returns
returns c room entries few = none_lost room (length entries) few
