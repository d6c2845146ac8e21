use Rattle.std.proofs.Common.{◌≡◌, [], All, length}
use Rattle.serve_lines.proofs.opened_lines.OpenedLines.none.Given as goal

abbrev pub invariant-loop : goal.invariant-loop
invariant-loop l = (length l.seats.items ≡ l.counter) × All (λ own. own.items ≡ []) l.seats.items
