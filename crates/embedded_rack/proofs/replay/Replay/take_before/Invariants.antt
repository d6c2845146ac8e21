use Rattle.std.proofs.Common.{◌-◌, ◌≡◌}
use Rattle.embedded_rack.specs.EntryReasons.{replayed}
use Rattle.embedded_rack.proofs.replay.Replay.take_before.Given as goal

abbrev pub invariant-loop-next : goal.invariant-loop-next
invariant-loop-next l = replayed l.book l.self l.next (l.place - l.next) ≡ replayed l.book l.fn.self 1 (l.place - 1)

abbrev pub decreases-loop-next : goal.decreases-loop-next
decreases-loop-next l = l.place - l.next
