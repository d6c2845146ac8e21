use Rattle.dp_responder.proofs.Memories.{own_requests}
use Rattle.dp_responder.proofs.laws.a_memory_depends_on_own_requests_alone.Goals as goal

pub returns : goal.returns
returns c = own_requests
