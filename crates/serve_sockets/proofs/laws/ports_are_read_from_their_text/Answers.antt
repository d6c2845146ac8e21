use Rattle.serve_sockets.proofs.ReadBack.{ports_read}
use Rattle.serve_sockets.proofs.laws.ports_are_read_from_their_text.Goals as goal

pub returns : goal.returns
returns c = ports_read
