-- helper
-- What a handle owns.
use Rattle.std.specs.Prelude.{Option, Some, None}
use base.Fml.{Fml, ftrue}
use denote.RawPtr.{Ptr}
use Rattle.std.specs.Box.Ownership.{box_owns}
use Rattle.std.specs.Global.{Global}
use Rattle.std.specs.contracts.impls.GlobalAllocator.TheImpl.{ghosts}
use Rattle.embedded_rack.specs.contracts.embedded_rack.EmbeddedRack.{the_row}

-- Nothing, or the box of a rack.
abbrev pub held : Global → Ptr → Option the_row.Denot → Fml
held alloc p None = ftrue
held alloc p (Some d) = box_owns (ghosts.dealloc_token alloc) the_row p d

abbrev pub IsOpen : Option the_row.Denot → Type 0
IsOpen None = ⊥
IsOpen (Some d) = Unit {0}
