use Rattle.dp_telegram.proofs.Streams.{one_cut}
use Rattle.dp_telegram.proofs.stream_laws.a_stream_has_one_cut.Goals as goal

pub returns : goal.returns
returns c = one_cut
