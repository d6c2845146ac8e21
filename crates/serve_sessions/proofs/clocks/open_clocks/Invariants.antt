use Rattle.std.proofs.Common.{◌≡◌, length}
use Rattle.serve_sessions.proofs.clocks.open_clocks.Given as goal

abbrev pub invariant-loop-line : goal.invariant-loop-line
invariant-loop-line g l = length l.clocks.items ≡ l.line-index
