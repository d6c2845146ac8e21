-- detail
-- The receipts that a session's pass gains while its gate records their places (own).
use Rattle.std.specs.Prelude.{◌≡◌, ◌⊎◌, ℕ, List, ◌++◌, map, Option}
use Rattle.std.specs.List.{concat}
use Rattle.std.specs.Io.KnownBytes.{Appends}
use Rattle.dp_text.specs.Writes.{WritesPrefix}
use Rattle.dp_audit.specs.declared.entry.Receipt.{Receipt}
use Rattle.dp_shared.specs.declared.line_view.PassView.{PassView}
use Rattle.rack_devices.specs.declared.driven_slave.DrivenSlave.{DrivenSlave}
use Rattle.dp_sessions.specs.Operating.{AreServedTo}
use Rattle.dp_sessions.specs.Recorded.{AnswersRecorded, AreRecorded}
use Rattle.dp_sessions.specs.Sessions.{reply_in}

-- a pass gained receipts
pub record Gains (before after : List Receipt) : Type 0 where
  pub receipts : List Receipt
  pub gained : after ≡ before ++ receipts

-- .. whose places are recorded
pub record GainsRecorded (recorded : ℕ → Type 0) (before after : List Receipt) : Type 0 where
  pub receipts : List Receipt
  pub gained : after ≡ before ++ receipts
  pub each : AreRecorded recorded receipts

-- .. and whose replies are written
pub record RepliesRecorded (recorded : ℕ → Type 0) (before after : List Receipt) (old new : Option (List ℕ)) : Type 0 where
  pub receipts : List Receipt
  pub gained : after ≡ before ++ receipts
  pub each : AreRecorded recorded receipts
  pub written : Appends old new (concat (map reply_in receipts))

-- the first receipts that a pass gained are recorded, and a prefix of their replies is written
pub record StopsRecorded (recorded : ℕ → Type 0) (before after : List Receipt) (old new : Option (List ℕ)) : Type 0 where
  pub first : List Receipt
  pub later : List Receipt
  pub gained : after ≡ before ++ (first ++ later)
  pub each : AreRecorded recorded first
  pub written : WritesPrefix old new (concat (map reply_in first))

-- an answer of an operator is not written whole: the receipts that its line gained are recorded; or no octet of it is written
abbrev pub StopsAnswer : (ℕ → Type 0) → List Receipt → List Receipt → Option (List ℕ) → Option (List ℕ) → Type 0
StopsAnswer recorded before after old new = GainsRecorded recorded before after ⊎ (Gains before after × (new ≡ old))

-- octets come while `held` is stored: whatever was served and recorded before them, the answers stop among them
abbrev pub StopsOff : List DrivenSlave → (ℕ → Type 0) → List ℕ → List ℕ → PassView → PassView → Option (List ℕ) → Option (List ℕ) → Type 0
StopsOff driven recorded octets held before after old new =
    (stream : List ℕ) (start : PassView) (first : Option (List ℕ)) → AreServedTo driven stream held start before first old
    → GainsRecorded recorded start.receipts before.receipts → AnswersRecorded driven recorded (stream ++ octets) start after first new
