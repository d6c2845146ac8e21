-- What threads share while a rack is served.
use denote.RattleType.{RattleType}
use denote.Ref.{NamedLft}
use denote.Param.Send.{IsSend, IsSync, sendable}
use Rattle.std.proofs.Crossing.{crosses}
use Rattle.std.specs.declared.io.traits.Write.{Ghosts}
use Rattle.dp_shared.proofs.claims.Claims.TheSendSync as claims
use Rattle.dp_shared.proofs.one_slot.OneSlot.TheSendSync as slot
use Rattle.dp_shared.proofs.Sharing.{shared_book_send}
use Rattle.dp_sessions.proofs.port.LineAndClaims.TheSendSync as port
use Rattle.audit_trail.proofs.Crossings.{trail_sync}
use Rattle.audit_trail.specs.contracts.trail.Trail as trail
use Rattle.audit_trail.specs.declared.naming.Naming.{Ghosts as Names}
use Rattle.serve_sessions.proofs.recorder.Recorder.TheSendSync as crossing
use Rattle.serve_sessions.specs.contracts.operators.OperatedLine as operated
use Rattle.serve_sessions.specs.contracts.recorder.Recorder as recorder

-- a line and its description, for the sessions of its operators
pub operated_send : (lent : NamedLft) → IsSend (operated.the_row lent)
operated_send lent = search (sendable, crosses, port.the_sync, slot.the_sync, claims.the_sync, shared_book_send) depth 80 fits 200000

-- a recorder with a trail that has a name
pub recorder_sync : (H W N : RattleType) (g : Ghosts W.Denot) (n : Names N.Denot) → IsSync H → IsSend W → (a l b : NamedLft)
    → IsSync (recorder.the_row a l H (trail.the_row b W N g n))
recorder_sync H W N g n shared sent a l b =
    let t : IsSync (trail.the_row b W N g n) = trail_sync W N g n sent b in
    search (sendable, crosses, shared, t, crossing.the_sync) depth 40 fits 100000
