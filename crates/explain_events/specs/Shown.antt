-- detail
-- A slave that is read where it lies, as it is shown (own).
use Rattle.std.specs.Prelude.{ℕ, Option, option_map}
use Rattle.dp_slave.specs.declared.view.SlaveView.{SlaveView}
use Rattle.dp_slave.specs.SlaveParts.{SlaveParts}
use Rattle.dp_slave.specs.View.{view_of}
use Rattle.dp_line.specs.World.{World, slave_at}

-- what is shown of a slave in the line's lists
abbrev pub shown : SlaveParts → SlaveView
shown parts = view_of parts.slave

-- of a slave that there may be
abbrev pub shown_if_any : Option SlaveParts → Option SlaveView
shown_if_any parts = option_map shown parts

-- the view of the slave at an address
abbrev pub shown_at : World → ℕ → Option SlaveView
shown_at world address = option_map view_of (slave_at world address)
