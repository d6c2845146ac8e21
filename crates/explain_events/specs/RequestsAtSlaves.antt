-- detail
-- A request that has reached a slave, and the data that a sentence is made of (own).
use Rattle.std.specs.Prelude.{ℕ, List, Option}
use Rattle.dp_telegram.specs.declared.frame.Telegram.{Telegram}
use Rattle.dp_telegram.specs.declared.access.Parts.{Parts}
use Rattle.dp_slave.specs.declared.description.SlaveSpec.{SlaveSpec}
use Rattle.dp_slave.specs.declared.view.SlaveView.{SlaveView}
use Rattle.explain_events.specs.declared.notes.Noted.{Noted}
use Rattle.explain_events.specs.declared.releases.Release.{Release}

-- a request of a master, the slave that it has reached, as it was before the request, and its description
pub record RequestAtSlaveView : Type 0 where
  pub master : ℕ
  -- the octets of the whole frame
  pub octets : List ℕ
  pub telegram : Telegram
  pub parts : Parts
  pub description : SlaveSpec
  pub slave : SlaveView
  -- the request whose reply the slave remembers for this master
  pub noted : Option Noted
  -- the last release of the slave
  pub release : Option Release
