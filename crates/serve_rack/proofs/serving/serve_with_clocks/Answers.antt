use denote.Param.Send.{sendable}
use Rattle.std.proofs.Crossing.{crosses}
use Rattle.serve_sessions.proofs.session_gate.SessionGate.TheSendSync as gate
use Rattle.serve_rack.proofs.serving.serve_with_clocks.Goals as goal

pub serve_at_gate-requires-sync-G : goal.serve_at_gate-requires-sync-G
serve_at_gate-requires-sync-G g c κs within = search (sendable, crosses, gate.the_sync) depth 80 fits 200000
