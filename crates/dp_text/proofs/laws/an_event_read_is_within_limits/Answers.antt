use Rattle.dp_text.proofs.Limits.{event_within}
use Rattle.dp_text.proofs.laws.an_event_read_is_within_limits.Goals as goal

pub returns : goal.returns
returns c = event_within
