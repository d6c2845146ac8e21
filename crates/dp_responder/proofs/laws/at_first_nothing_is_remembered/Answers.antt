use Rattle.dp_responder.proofs.Memories.{nothing_at_first}
use Rattle.dp_responder.proofs.laws.at_first_nothing_is_remembered.Goals as goal

pub returns : goal.returns
returns c = nothing_at_first
