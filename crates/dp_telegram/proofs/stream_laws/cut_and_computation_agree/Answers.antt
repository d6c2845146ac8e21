use Rattle.dp_telegram.proofs.Fronts.{starts_first}
use Rattle.dp_telegram.proofs.Streams.{first_starts, starts_none, none_starts, cuts_are}
use Rattle.dp_telegram.proofs.stream_laws.cut_and_computation_agree.Goals as goal

pub returns-clause-piece : goal.returns-clause-piece
returns-clause-piece c stream cut rest = (starts_first stream cut rest, first_starts stream cut rest)

pub returns-clause-none : goal.returns-clause-none
returns-clause-none c stream = (starts_none stream, none_starts stream)

pub returns-clause-whole : goal.returns-clause-whole
returns-clause-whole c = cuts_are
