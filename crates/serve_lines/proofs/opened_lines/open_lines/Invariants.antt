use Rattle.std.proofs.Common.{◌≡◌, ◌++◌, All, None, length, map}
use Rattle.dp_line.specs.World.{description_of, opening_fault}
use Rattle.dp_sessions.specs.Pools.{HasSeats}
use Rattle.serve_lines.specs.ServedLines.{as_opened}
use Rattle.serve_lines.specs.OpenedLines.{AreOpened}
use Rattle.serve_lines.proofs.opened_lines.open_lines.Given as goal

abbrev pub invariant-loop-line : goal.invariant-loop-line
invariant-loop-line l =
    (goal.iterator-loop-line).can_next l.line-iterator × (goal.iterator-loop-line).is_finite l.line-iterator
    × (l.yielded ++ l.line-iterator.rest.items ≡ l.fn.lines.items)
    × All (λ line. opening_fault (description_of line.spec) ≡ None) l.line-iterator.rest.items
    × (l.opened.lines.items ≡ map (as_opened l.are_endless) l.yielded)
    × AreOpened l.opened.lines.items l.opened.ports.items
    × (length l.opened.seats.items ≡ l.workers)
    × All (λ own. HasSeats l.opened.ports.items own.items) l.opened.seats.items
