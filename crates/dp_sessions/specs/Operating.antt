-- detail
-- The progress of an operator's session through its stream (own).
use Rattle.std.specs.Prelude.{◌≡◌, ℕ, List, ◌++◌, Option, take}
use Rattle.std.specs.List.{concat}
use Rattle.std.specs.Io.KnownBytes.{Appends}
use Rattle.dp_shared.specs.declared.line_view.PassView.{PassView}
use Rattle.rack_devices.specs.declared.driven_slave.DrivenSlave.{DrivenSlave}
use Rattle.dp_sessions.specs.Operators.{AreAnswered, AreBrokenOff, FallsInto}

-- what is stored of a line: enough octets to show whether it is too long
abbrev pub kept : List ℕ → List ℕ
kept line = take 1025 line

-- the lines of a stream were answered, every answer is written, and `held` is stored of the octets after the last LF
pub record AreServedTo (driven : List DrivenSlave) (stream held : List ℕ) (before after : PassView) (old new : Option (List ℕ)) : Type 0 where
  pub lines : List (List ℕ)
  pub rest : List ℕ
  pub parted : FallsInto stream lines rest
  pub held_is : held ≡ kept rest
  pub texts : List (List ℕ)
  pub answered : AreAnswered driven lines before after texts
  pub written : Appends old new (concat texts)

-- octets come while `held` is stored: whatever was served before them, it goes on with them, and then `now` is stored
abbrev pub GoesOn : List DrivenSlave → List ℕ → List ℕ → List ℕ → PassView → PassView → Option (List ℕ) → Option (List ℕ) → Type 0
GoesOn driven octets held now before after old new =
    (stream : List ℕ) (start : PassView) (first : Option (List ℕ)) → AreServedTo driven stream held start before first old
    → AreServedTo driven (stream ++ octets) now start after first new

-- octets come while `held` is stored: whatever was served before them, it breaks off among them
abbrev pub BreaksOff : List DrivenSlave → List ℕ → List ℕ → PassView → PassView → Option (List ℕ) → Option (List ℕ) → Type 0
BreaksOff driven octets held before after old new =
    (stream : List ℕ) (start : PassView) (first : Option (List ℕ)) → AreServedTo driven stream held start before first old
    → AreBrokenOff driven (stream ++ octets) start after first new
