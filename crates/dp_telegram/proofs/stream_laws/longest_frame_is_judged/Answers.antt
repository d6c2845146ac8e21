use Rattle.dp_telegram.proofs.Streams.{full_starts}
use Rattle.dp_telegram.proofs.stream_laws.longest_frame_is_judged.Goals as goal

pub returns : goal.returns
returns c = full_starts
