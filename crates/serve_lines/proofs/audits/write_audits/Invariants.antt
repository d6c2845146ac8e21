use Rattle.std.proofs.Common.{◌≡◌, ◌++◌, drop, length, map}
use Rattle.std.specs.Vec.Iter.{into_iter_items}
use Rattle.serve_lines.specs.AuditTexts.{AreClosed, line_at}
use Rattle.serve_lines.proofs.audits.write_audits.Given as goal

abbrev pub invariant-loop-port : goal.invariant-loop-port
invariant-loop-port g l =
    (goal.iterator-loop-port g).can_next l.port-iterator × (goal.iterator-loop-port g).is_finite l.port-iterator
    × (l.yielded ++ l.port-iterator.rest.items ≡ l.fn.ports.items)
    × AreClosed (map line_at l.yielded) l.fn.passes.items (g.W.Write.contents l.initial.writer) (g.W.Write.contents l.writer)
    × (into_iter_items l.lists ≡ drop (length l.yielded) l.fn.passes.items)
