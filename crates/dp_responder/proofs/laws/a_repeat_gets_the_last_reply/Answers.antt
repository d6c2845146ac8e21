use Rattle.dp_responder.proofs.Memories.{last_reply}
use Rattle.dp_responder.proofs.laws.a_repeat_gets_the_last_reply.Goals as goal

pub returns : goal.returns
returns c = last_reply
