use Rattle.std.proofs.Common.{◌≡◌, ◌+◌, ◌≤◌, ◌++◌, length}
use Rattle.dp_sessions.specs.SessionProgress.{IsServedTo}
use Rattle.dp_sessions.specs.Recording.{RepliesRecorded}
use Rattle.dp_shared.specs.Sending.{IsSamePass}
use Rattle.dp_sessions.proofs.exchange.pass_octets.Given as goal

-- the octets held and those left are ahead
abbrev pub invariant-loop-piece : goal.invariant-loop-piece
invariant-loop-piece g l = record {
  same : IsSamePass l.fn.pass l.pass;
  most : length l.cutter ≤ 255;
  served : IsServedTo l.fn.pass.view.address (l.fn.cutter ++ l.octets) (l.cutter ++ l.left) l.fn.pass.view l.pass.view (g.W.Write.contents l.fn.writer) (g.W.Write.contents l.writer);
  replies : RepliesRecorded (g.G.Gate.recorded l.gate l.fn.pass.line) l.fn.pass.view.receipts l.pass.view.receipts (g.W.Write.contents l.fn.writer) (g.W.Write.contents l.writer);
}

abbrev pub decreases-loop-piece : goal.decreases-loop-piece
decreases-loop-piece g l = length l.cutter + (length l.left + length l.left)
