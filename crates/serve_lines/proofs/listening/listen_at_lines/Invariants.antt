use Rattle.std.proofs.Common.{◌≡◌, length}
use Rattle.serve_lines.proofs.listening.listen_at_lines.Given as goal

abbrev pub invariant-loop-line : goal.invariant-loop-line
invariant-loop-line g l = length l.all.items ≡ l.line-index
