-- helper
-- What the private steps of a session leave (own). No public clause cites this module.
use Rattle.std.specs.Prelude.{◌≡◌, ℕ, ◌≤◌, List, length, map, Option}
use Rattle.std.specs.List.{concat}
use Rattle.std.specs.Io.KnownBytes.{Appends}
use Rattle.dp_telegram.specs.declared.cutter.Cut.{Cut}
use Rattle.dp_telegram.specs.Stream.{cuts_of, uncut}
use Rattle.dp_text.specs.Writes.{WritesPrefix}
use Rattle.dp_audit.specs.declared.entry.Receipt.{Receipt}
use Rattle.dp_shared.specs.declared.line_view.PassView.{PassView}
use Rattle.rack_devices.specs.declared.driven_slave.DrivenSlave.{DrivenSlave}
use Rattle.dp_sessions.specs.Operating.{BreaksOff, GoesOn}
use Rattle.dp_sessions.specs.Recording.{GainsRecorded, RepliesRecorded, StopsAnswer, StopsOff, StopsRecorded}
use Rattle.dp_sessions.specs.SessionProgress.{IsBrokenIn, IsServedTo}
use Rattle.dp_sessions.specs.Sessions.{AreExchanged, IsCutOff, reply_in}

-- one piece of a master's stream was exchanged: the reply is written whole, and before it the place was recorded
pub record PieceIsServed (is_recorded : ℕ → Type 0) (master : ℕ) (cuts : List Cut) (before after : PassView) (old new : Option (List ℕ)) : Type 0 where
  pub written : (receipts : List Receipt) × AreExchanged master cuts receipts before after × Appends old new (concat (map reply_in receipts))
  pub recorded : RepliesRecorded is_recorded before.receipts after.receipts old new

-- .. or it is not: its place was not recorded, or a write failed
pub record PieceIsCutOff (is_recorded : ℕ → Type 0) (master : ℕ) (cuts : List Cut) (before after : PassView) (old new : Option (List ℕ)) : Type 0 where
  pub written : (receipts : List Receipt) × AreExchanged master cuts receipts before after × IsCutOff old new (map reply_in receipts)
  pub recorded : StopsRecorded is_recorded before.receipts after.receipts old new

-- all whole pieces of this stream were exchanged, and the cutter has the octets that are left
pub record StreamIsServed (is_recorded : ℕ → Type 0) (master : ℕ) (stream left : List ℕ) (before after : PassView) (old new : Option (List ℕ)) : Type 0 where
  pub most : length left ≤ 255
  pub rest : cuts_of left ≡ uncut left
  pub served : IsServedTo master stream left before after old new
  pub recorded : RepliesRecorded is_recorded before.receipts after.receipts old new

-- .. or the session ends within it
pub record StreamIsCutOff (is_recorded : ℕ → Type 0) (master : ℕ) (stream : List ℕ) (before after : PassView) (old new : Option (List ℕ)) : Type 0 where
  pub broken : IsBrokenIn master stream before after old new
  pub recorded : StopsRecorded is_recorded before.receipts after.receipts old new

-- the octets of an operator were taken: the lines that they end are answered, and `now` is stored of the line behind them
pub record OctetsAreTaken (driven : List DrivenSlave) (is_recorded : ℕ → Type 0) (octets held now : List ℕ) (before after : PassView) (old new : Option (List ℕ)) : Type 0 where
  pub served : GoesOn driven octets held now before after old new
  pub recorded : GainsRecorded is_recorded before.receipts after.receipts

-- .. or an answer among them is not written whole
pub record OctetsAreCutOff (driven : List DrivenSlave) (is_recorded : ℕ → Type 0) (octets held : List ℕ) (before after : PassView) (old new : Option (List ℕ)) : Type 0 where
  pub broken : BreaksOff driven octets held before after old new
  pub recorded : StopsOff driven is_recorded octets held before after old new

-- the answer of an operator's line is written whole, and its entries are recorded
pub record AnswerIsWritten (is_recorded : ℕ → Type 0) (text : List ℕ) (before after : PassView) (old new : Option (List ℕ)) : Type 0 where
  pub written : Appends old new text
  pub recorded : GainsRecorded is_recorded before.receipts after.receipts

-- .. or a first part of it
pub record AnswerIsCutOff (is_recorded : ℕ → Type 0) (text : List ℕ) (before after : PassView) (old new : Option (List ℕ)) : Type 0 where
  pub written : WritesPrefix old new text
  pub recorded : StopsAnswer is_recorded before.receipts after.receipts old new
