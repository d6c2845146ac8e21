use Rattle.std.proofs.Common.{◌≡◌, map, take}
use Rattle.explain_events.specs.Notes.{first_notes}
use Rattle.explain_events.proofs.notes.first_notes.Given as goal

abbrev pub invariant-loop-slave : goal.invariant-loop-slave
invariant-loop-slave l =
    l.notes.items ≡ first_notes (map (λ slave. slave.address) (take l.slave-index l.slave-items)) l.line.masters.items
