-- A tail may go to another thread, and threads may share a trail.
use denote.RattleType.{RattleType}
use denote.Ref.{NamedLft}
use denote.Param.Send.{IsSend, IsSync, recorded_send, recorded_sync, sendable, struct_send, struct_sync}
use denote.Struct.Declared.{shape}
use Rattle.std.proofs.Crossing.{crosses}
use Rattle.std.specs.declared.io.traits.Write.{Ghosts}
use Rattle.dp_shared.proofs.Sharing.{shared_book_send, pass_send}
use Rattle.dp_shared.proofs.one_slot.OneSlot.TheSendSync as slot
use Rattle.dp_audit.proofs.record.Record.TheSendSync as copied
use Rattle.dp_text.proofs.text.Text.TheSendSync as text
use Rattle.audit_trail.proofs.fault.TrailBreak.TheSendSync as breaks
use Rattle.audit_trail.specs.contracts.tail.Tail as tail
use Rattle.audit_trail.specs.contracts.trail.NamedTail as named
use Rattle.audit_trail.specs.contracts.trail.Trail as trail
use Rattle.audit_trail.specs.declared.naming.Naming.{Ghosts as Names}

tail_field : (W : RattleType) (g : Ghosts W.Denot) → IsSend W → (lent : NamedLft) → IsSend (tail.the_field lent W g).row
tail_field W g sent lent = struct_send (shape (tail.the_type lent W g)) (
  search (sendable, crosses, slot.the_sync, shared_book_send) depth 40 fits 100000,
  (pass_send, (sent, (copied.the_send, (text.the_send, (search (sendable, crosses) depth 40 fits 100000, (search sendable, (search sendable, (search (sendable, crosses, breaks.the_send) depth 20, (search (sendable, crosses), tt))))))))),
)

pub tail_send : (W : RattleType) (g : Ghosts W.Denot) → IsSend W → (lent : NamedLft) → IsSend (tail.the_row lent W g)
tail_send W g sent lent = search (sendable, recorded_send, tail_field W g sent lent)

named_field : (W N : RattleType) (g : Ghosts W.Denot) (n : Names N.Denot) → IsSend W → (lent : NamedLft) → IsSend (named.the_field lent W N g n).row
named_field W N g n sent lent = struct_send (shape (named.the_type lent W N g n)) (tail_field W g sent lent, (search (sendable, crosses) depth 20, tt))

pub named_send : (W N : RattleType) (g : Ghosts W.Denot) (n : Names N.Denot) → IsSend W → (lent : NamedLft) → IsSend (named.the_row lent W N g n)
named_send W N g n sent lent = search (sendable, recorded_send, named_field W N g n sent lent)

trail_field : (W N : RattleType) (g : Ghosts W.Denot) (n : Names N.Denot) → IsSend W → (lent : NamedLft) → IsSync (trail.the_field lent W N g n).row
trail_field W N g n sent lent = struct_sync (shape (trail.the_type lent W N g n)) (search (sendable, crosses, named_send W N g n sent lent) depth 20, tt)

pub trail_sync : (W N : RattleType) (g : Ghosts W.Denot) (n : Names N.Denot) → IsSend W → (lent : NamedLft) → IsSync (trail.the_row lent W N g n)
trail_sync W N g n sent lent = search (sendable, recorded_sync, trail_field W N g n sent lent)
