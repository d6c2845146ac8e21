use Rattle.std.proofs.Common.{◌≡◌, length, map, take}
use Rattle.serve_lines.specs.ServedLines.{line_numbers}
use Rattle.serve_lines.proofs.listening.ports_of.Given as goal

abbrev pub invariant-loop-line : goal.invariant-loop-line
invariant-loop-line l = (length l.all.items ≡ l.line-index) × (map (λ ports. ports.line) l.all.items ≡ line_numbers (take l.line-index l.fn.lines))
