-- detail
-- What the gate of a session has recorded of the events whose answers are written (own). `recorded` says which places are recorded.
use Rattle.std.specs.Prelude.{◌≡◌, ◌⊎◌, ℕ, List, [], ◌++◌, map, Option, IfSome, ⊤}
use Rattle.std.specs.List.{AllByRecursion, concat}
use Rattle.std.specs.Io.KnownBytes.{Consumes}
use Rattle.atomic_table.specs.Seated.{TableId}
use Rattle.dp_text.specs.Writes.{WritesPrefix}
use Rattle.dp_audit.specs.declared.entry.Receipt.{Receipt}
use Rattle.dp_shared.specs.declared.claim_view.ClaimView.{ClaimView}
use Rattle.dp_shared.specs.declared.line_view.PassView.{PassView}
use Rattle.rack_devices.specs.declared.driven_slave.DrivenSlave.{DrivenSlave}
use Rattle.dp_shared.specs.Passes.{new_pass}
use Rattle.dp_sessions.specs.declared.session_end.SessionEnd.{SessionEnd}
use Rattle.dp_sessions.specs.declared.session_end.SessionEnd.TheVariants as ends
use Rattle.dp_sessions.specs.declared.session.Session.{Session}
use Rattle.dp_sessions.specs.declared.session.Session.TheVariants.{Accepted, Rejected}
use Rattle.dp_sessions.specs.Ended.{IsOperatorSessionOf, IsSessionOf, end_of}
use Rattle.dp_sessions.specs.Operators.{AreAnswered, BeginsWith}
use Rattle.dp_sessions.specs.Sessions.{Streams, acceptance, reply_in}

-- the places of these receipts are recorded
abbrev pub AreRecorded : (ℕ → Type 0) → List Receipt → Type 0
AreRecorded recorded receipts = AllByRecursion (λ receipt. IfSome receipt.place recorded) receipts

-- ---- a session of a master

-- Of the receipts that a pass gained, the first are recorded, and what is written is these texts, or a prefix of them: `front`, and then the
-- replies in these receipts. So no octet of a reply is written unless its entry is recorded. If the session did not end with a write fault, all
-- receipts are recorded.
pub record WritesRecorded (recorded : ℕ → Type 0) (front : List ℕ) (before after : List Receipt) (old new : Option (List ℕ)) (end : SessionEnd) : Type 0 where
  pub first : List Receipt
  pub later : List Receipt
  pub gained : after ≡ before ++ (first ++ later)
  pub each : AreRecorded recorded first
  pub written : WritesPrefix old new (front ++ concat (map reply_in first))
  pub all : (later ≡ []) ⊎ (end ≡ ends.WriteFault)

-- .. of an accepted session, which writes the acceptance first; a session that is not accepted writes nothing
abbrev pub IsRecordedSession : (ℕ → Type 0) → Streams → Session → Type 0
IsRecordedSession recorded streams (Accepted end returned_pass) = WritesRecorded recorded acceptance [] returned_pass.view.receipts streams.written streams.written_after end
IsRecordedSession recorded streams (Rejected address end) = ⊤

-- .. of a session that ended so, with the line of this table
abbrev pub EndsRecorded : (ℕ → Type 0) → TableId → List ℕ → ℕ → Streams → ClaimView → ClaimView → SessionEnd → Type 0
EndsRecorded recorded table masters turns streams before after end =
    (session : Session) × (end ≡ end_of session) × IsSessionOf table masters turns streams before after session × IsRecordedSession recorded streams session

-- ---- a session of an operator

-- What is written is the answers to the first lines of the stream, or a prefix of these answers. The receipts that these lines gained are
-- recorded; the other lines gained `later`.
pub record AnswersRecorded (driven : List DrivenSlave) (recorded : ℕ → Type 0) (stream : List ℕ) (before after : PassView) (old new : Option (List ℕ)) : Type 0 where
  pub lines : List (List ℕ)
  pub others : List ℕ
  pub begins : BeginsWith stream lines others
  pub between : PassView
  pub texts : List (List ℕ)
  pub answered : AreAnswered driven lines before between texts
  pub first : List Receipt
  pub gained : between.receipts ≡ before.receipts ++ first
  pub each : AreRecorded recorded first
  pub later : List Receipt
  pub gained_later : after.receipts ≡ between.receipts ++ later
  pub written : WritesPrefix old new (concat texts)

-- .. of the stream that was read; if the session did not end with a write fault, all receipts are recorded
pub record HasOperatedRecorded (driven : List DrivenSlave) (recorded : ℕ → Type 0) (streams : Streams) (before after : PassView) (end : SessionEnd) : Type 0 where
  pub stream : List ℕ
  pub read : Consumes streams.left streams.left_after stream
  pub answers : AnswersRecorded driven recorded stream before after streams.written streams.written_after
  pub all : (answers.later ≡ []) ⊎ (end ≡ ends.WriteFault)

-- .. of an accepted session; a session without a pass writes nothing
abbrev pub IsRecordedOperatorSession : List DrivenSlave → (ℕ → Type 0) → Streams → Session → Type 0
IsRecordedOperatorSession driven recorded streams (Accepted end returned_pass) = (number : ℕ) × HasOperatedRecorded driven recorded streams (new_pass number 127) returned_pass.view end
IsRecordedOperatorSession driven recorded streams (Rejected address end) = ⊤

abbrev pub EndsOperatorRecorded : (ℕ → Type 0) → TableId → List DrivenSlave → ℕ → Streams → SessionEnd → Type 0
EndsOperatorRecorded recorded table driven turns streams end =
    (session : Session) × (end ≡ end_of session) × IsOperatorSessionOf table driven turns streams session × IsRecordedOperatorSession driven recorded streams session
