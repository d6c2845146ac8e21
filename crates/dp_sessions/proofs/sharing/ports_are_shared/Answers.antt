use denote.Param.Send.{sendable, param_sync}
use Rattle.std.proofs.Crossing.{crosses}
use Rattle.dp_shared.proofs.claims.Claims.TheSendSync as claims
use Rattle.dp_shared.proofs.one_slot.OneSlot.TheSendSync as slot
use Rattle.dp_sessions.proofs.port.LineAndClaims.TheSendSync as port
use Rattle.dp_shared.proofs.Sharing.{shared_book_send}
use Rattle.dp_sessions.proofs.sharing.ports_are_shared.Lts.{arg-0-0}
use Rattle.dp_sessions.proofs.sharing.ports_are_shared.Goals as goal

pub is_shared-requires-sync-T : goal.is_shared-requires-sync-T
is_shared-requires-sync-T c κs = param_sync 0 (arg-0-0 κs) (search (sendable, crosses, shared_book_send, slot.the_sync, claims.the_sync, port.the_sync) depth 40 fits 100000)
