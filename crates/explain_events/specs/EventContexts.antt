-- detail
-- The data that an explanation of an event reads: the line's description, the line before the event, the notes, the last releases, and the time (own).
use Rattle.std.specs.Prelude.{ℕ, List, Option}
use Rattle.dp_telegram.specs.declared.frame.Telegram.{Telegram}
use Rattle.dp_telegram.specs.declared.access.Parts.{Parts}
use Rattle.dp_line.specs.World.{Description, World}
use Rattle.explain_events.specs.declared.notes.Noted.{Noted}
use Rattle.explain_events.specs.declared.releases.Release.{Release}

pub record EventContextView : Type 0 where
  pub description : Description
  pub world : World
  pub notes : List Noted
  -- the last release of each address, at its index
  pub releases : List (Option Release)
  -- the sum of the ticks before the event, in units of 10 ms; None before the first tick
  pub time : Option ℕ

-- a request on its way to slaves
pub record AskedView : Type 0 where
  pub master : ℕ
  -- the octets of the whole frame
  pub octets : List ℕ
  pub telegram : Telegram
  pub parts : Parts
