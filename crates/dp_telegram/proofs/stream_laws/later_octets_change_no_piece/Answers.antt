use Rattle.dp_telegram.proofs.Streams.{first_more, cuts_in_pieces}
use Rattle.dp_telegram.proofs.stream_laws.later_octets_change_no_piece.Goals as goal

pub returns-clause-piece : goal.returns-clause-piece
returns-clause-piece c = first_more

pub returns-clause-cuts : goal.returns-clause-cuts
returns-clause-cuts c stream more = (cuts_in_pieces stream more).0

pub returns-clause-rest : goal.returns-clause-rest
returns-clause-rest c stream more = (cuts_in_pieces stream more).1
