use denote.Param.Send.{sendable}
use Rattle.std.proofs.Crossing.{crosses}
use Rattle.audit_trail.proofs.Crossings.{trail_sync}
use Rattle.audit_trail.proofs.sharing.a_trail_is_shared.Goals as goal

pub is_shared-requires-sync-T : goal.is_shared-requires-sync-T
is_shared-requires-sync-T g c κs within = search (sendable, crosses, trail_sync) depth 40 fits 100000
