use Rattle.std.proofs.Common.{◌≡◌, ◌+◌, length, map, take}
use Rattle.std.specs.List.{range_with_len}
use Rattle.serve_sessions.proofs.acceptors.Acceptors.new.Given as goal

abbrev pub invariant-loop-here : goal.invariant-loop-here
invariant-loop-here g l =
    (goal.iterator-loop-here g).can_next l.here-iterator × (goal.iterator-loop-here g).is_finite l.here-iterator
    × (length l.all.masters.items + length l.here-iterator.rest.items ≡ length l.fn.listening.items)
    × (map (λ acceptor. acceptor.port) l.all.masters.items ≡ range_with_len 0 (length l.all.masters.items))
    × (map (λ acceptor. acceptor.target.port.now) l.all.operators.items ≡ take (length l.all.masters.items) l.ports)
