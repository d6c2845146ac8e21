use denote.Param.Send.{sendable}
use Rattle.std.proofs.Crossing.{crosses}
use Rattle.serve_clock.proofs.Crossings.{clock_sync}
use Rattle.serve_rack.proofs.serving.serve_with_recorders.Goals as goal

pub serve_with_clocks-served-requires-sync-D : goal.serve_with_clocks-served-requires-sync-D
serve_with_clocks-served-requires-sync-D g c κs within = search (sendable, crosses, clock_sync) depth 40 fits 100000
