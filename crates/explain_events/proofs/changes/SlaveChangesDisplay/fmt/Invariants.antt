use Rattle.std.proofs.Common.{take}
use Rattle.std.specs.List.{flat_map}
use Rattle.std.specs.Fmt.{HasWritten, IsPlainFormatter}
use Rattle.explain_events.specs.Changes.{change_of}
use Rattle.explain_events.proofs.changes.SlaveChangesDisplay.fmt.Given as goal

abbrev pub invariant-loop-address : goal.invariant-loop-address
invariant-loop-address g l =
    IsPlainFormatter l.initial.f → HasWritten g.W.Write.write_str_gives l.initial.f
    (flat_map (change_of l.self.before.now.world l.self.after.now.world) (take l.address-index l.address-items)) l.f
