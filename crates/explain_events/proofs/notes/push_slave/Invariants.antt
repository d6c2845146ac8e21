use Rattle.std.proofs.Common.{◌≡◌, ◌++◌, map, take}
use Rattle.explain_events.specs.Notes.{unnoted}
use Rattle.explain_events.proofs.notes.push_slave.Given as goal

abbrev pub invariant-loop-master : goal.invariant-loop-master
invariant-loop-master l = l.notes.items ≡ l.initial.notes.items ++ map (unnoted l.slave) (take l.master-index l.masters)
