use denote.Param.Send.{sendable}
use Rattle.std.proofs.Crossing.{crosses}
use Rattle.serve_sessions.proofs.operators.OperatorAcceptor.TheSendSync as acceptor
use Rattle.serve_sessions.proofs.operators.OperatorWorker.TheSendSync as worker
use Rattle.serve_sessions.proofs.Sharing.{operated_send}
use Rattle.serve_rack.proofs.threads.serve_sessions.Goals as goal

pub serve_in_threads-requires-send-O : goal.serve_in_threads-requires-send-O
serve_in_threads-requires-send-O g c κs within = search (sendable, crosses, acceptor.the_send, operated_send) depth 80 fits 200000

pub serve_in_threads-requires-send-P : goal.serve_in_threads-requires-send-P
serve_in_threads-requires-send-P g c κs within = search (sendable, crosses, worker.the_send, operated_send) depth 80 fits 200000
