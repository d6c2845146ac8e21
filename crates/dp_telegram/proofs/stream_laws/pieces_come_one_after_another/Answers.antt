use Rattle.dp_telegram.proofs.Streams.{cuts_first}
use Rattle.dp_telegram.proofs.stream_laws.pieces_come_one_after_another.Goals as goal

pub returns-clause-piece : goal.returns-clause-piece
returns-clause-piece c = cuts_first
