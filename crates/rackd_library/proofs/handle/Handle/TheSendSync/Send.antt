-- It may go to another thread, with the rack that it owns.
use Rattle.std.specs.Prelude.{Option, None, Some}
use mir.Raw.{raw}
use base.Shift.{Keyless}
use denote.RawPtr.{Ptr}
use denote.Memory.{lone}
use denote.Struct.Struct.{exits_of}
use denote.Struct.Owning.{shape, fields, to}
use denote.Param.Send.{IsSend, AllSend, owning_send, struct_send, sendable}
use Rattle.std.proofs.Crossing as heap
use Rattle.std.specs.Global.{Global}
use Rattle.std_alloc.proofs.SendSync.{quiet, lies}
use Rattle.embedded_rack.specs.contracts.embedded_rack.EmbeddedRack as Home
use Rattle.rackd_library.proofs.Sharing.{rack_send}
use Rattle.rackd_library.specs.Held.{held}
use Rattle.rackd_library.specs.contracts.handle.Handle.{the_row, the_type}

-- a closed handle owns nothing, and an open one what a box of a rack owns
held_keyless : (alloc : Global) (p : Ptr) (rack : Option Home.the_row.Denot) → Keyless (held alloc p rack)
held_keyless alloc p None = tt
held_keyless alloc p (Some d) = (lies Home.the_row rack_send p d, heap.frees.frees alloc (raw (lone Home.the_row.mir)) p)

pub send : IsSend the_row
send =
    let all : AllSend (fields the_type) = (search sendable, (search sendable depth 20, tt)) in
    owning_send the_type all (λ d. held_keyless d.alloc d.ptr d.rack)
    (λ k. quiet (to the_type) (exits_of k (fields the_type)) ((struct_send (shape the_type) all).leaving k))
