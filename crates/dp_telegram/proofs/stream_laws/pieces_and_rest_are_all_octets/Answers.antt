use Rattle.dp_telegram.proofs.Streams.{all_octets, rest_behind}
use Rattle.dp_telegram.proofs.stream_laws.pieces_and_rest_are_all_octets.Goals as goal

pub returns-clause-rest : goal.returns-clause-rest
returns-clause-rest c = rest_behind

pub returns-clause-count : goal.returns-clause-count
returns-clause-count c = all_octets
