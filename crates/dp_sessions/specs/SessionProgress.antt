-- detail
-- The progress of a session through the stream of its master (own).
use Rattle.std.specs.Prelude.{◌≡◌, ℕ, List, ◌++◌, map, Option}
use Rattle.std.specs.List.{concat}
use Rattle.std.specs.Io.KnownBytes.{Appends}
use Rattle.dp_telegram.specs.declared.cutter.Cut.{Cut}
use Rattle.dp_telegram.specs.Stream.{CutStream, cuts_of}
use Rattle.dp_audit.specs.declared.entry.Receipt.{Receipt}
use Rattle.dp_shared.specs.declared.line_view.PassView.{PassView}
use Rattle.dp_sessions.specs.Sessions.{AreExchanged, IsCutOff, reply_in}

-- a cut stream with these pieces in front
abbrev pub with_cuts : List Cut → CutStream → CutStream
with_cuts cuts stream = record { cuts = cuts ++ stream.cuts; rest = stream.rest }

-- these pieces are cut off the stream, and `ahead` is not cut yet, whatever octets follow
pub record IsCutTo (stream : List ℕ) (cuts : List Cut) (ahead : List ℕ) : Type 0 where
  pub goes_on : (more : List ℕ) → cuts_of (stream ++ more) ≡ with_cuts cuts (cuts_of (ahead ++ more))

-- the pieces before the octets ahead were exchanged, and every reply is written
pub record IsServedTo (master : ℕ) (stream ahead : List ℕ) (before after : PassView) (old new : Option (List ℕ)) : Type 0 where
  pub cuts : List Cut
  pub cut : IsCutTo stream cuts ahead
  pub receipts : List Receipt
  pub exchanged : AreExchanged master cuts receipts before after
  pub written : Appends old new (concat (map reply_in receipts))

-- the pieces before the octets ahead were exchanged, and a write failed in the last reply
pub record IsBrokenIn (master : ℕ) (stream : List ℕ) (before after : PassView) (old new : Option (List ℕ)) : Type 0 where
  pub ahead : List ℕ
  pub cuts : List Cut
  pub cut : IsCutTo stream cuts ahead
  pub receipts : List Receipt
  pub exchanged : AreExchanged master cuts receipts before after
  pub written : IsCutOff old new (map reply_in receipts)
