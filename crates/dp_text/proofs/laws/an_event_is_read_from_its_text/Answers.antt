use Rattle.dp_text.proofs.ReadBack.{event_read}
use Rattle.dp_text.proofs.laws.an_event_is_read_from_its_text.Goals as goal

pub returns : goal.returns
returns c = event_read
