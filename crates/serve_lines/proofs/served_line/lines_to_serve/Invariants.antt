use Rattle.std.proofs.Common.{◌≡◌, ◌++◌, Some}
use Rattle.serve_lines.specs.ServedLines.{all_served}
use Rattle.serve_lines.proofs.served_line.lines_to_serve.Given as goal

abbrev pub invariant-loop-line : goal.invariant-loop-line
invariant-loop-line l =
    (goal.iterator-loop-line).can_next l.line-iterator × (goal.iterator-loop-line).is_finite l.line-iterator
    × (l.yielded ++ l.line-iterator.rest.items ≡ l.fn.lines.items)
    × (all_served l.yielded ≡ Some l.served.items)
