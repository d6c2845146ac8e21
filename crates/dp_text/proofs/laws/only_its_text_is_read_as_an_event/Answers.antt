use Rattle.dp_text.proofs.ReadExactly.{event_is}
use Rattle.dp_text.proofs.laws.only_its_text_is_read_as_an_event.Goals as goal

pub returns : goal.returns
returns c = event_is
