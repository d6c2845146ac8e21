use Rattle.dp_telegram.proofs.WrongEnds.{wrong_end}
use Rattle.dp_telegram.proofs.stream_laws.a_bad_end_is_a_wrong_octet.Goals as goal

pub returns : goal.returns
returns c = wrong_end
