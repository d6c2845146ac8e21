use denote.Param.Send.{sendable}
use Rattle.std.proofs.Crossing.{crosses}
use Rattle.serve_clock.proofs.Crossings.{clock_sync}
use Rattle.serve_clock.proofs.sharing.a_clock_is_shared.Goals as goal

pub is_shared-requires-sync-T : goal.is_shared-requires-sync-T
is_shared-requires-sync-T c κs = search (sendable, crosses, clock_sync) depth 40 fits 100000
