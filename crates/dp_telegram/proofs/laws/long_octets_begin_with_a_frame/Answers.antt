use Rattle.dp_telegram.proofs.Ends.{long_is_more}
use Rattle.dp_telegram.proofs.laws.long_octets_begin_with_a_frame.Goals as goal

pub returns : goal.returns
returns c = long_is_more
