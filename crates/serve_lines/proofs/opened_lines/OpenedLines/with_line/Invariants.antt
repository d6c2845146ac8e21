use Rattle.std.proofs.Common.{◌≡◌, ◌+◌, All, length}
use Rattle.dp_sessions.specs.Pools.{HasSeats}
use Rattle.serve_lines.proofs.Opening.{AreFresh}
use Rattle.serve_lines.proofs.opened_lines.OpenedLines.with_line.Given as goal

abbrev pub invariant-loop-own : goal.invariant-loop-own
invariant-loop-own l =
    (goal.iterator-loop-own).can_next l.own-iterator × (goal.iterator-loop-own).is_finite l.own-iterator
    × (length l.more.items + length l.own-iterator.rest.items ≡ length l.fn.self.seats.items)
    × All (λ own. HasSeats l.fn.self.ports.items own.items) l.own-iterator.rest.items
    × All (λ own. HasSeats l.ports.items own.items) l.more.items
    × (length l.fresh.items ≡ length l.own-iterator.rest.items)
    × AreFresh l.fn.self.ports.items l.ports.items l.fresh.items
