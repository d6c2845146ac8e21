use Rattle.std.proofs.Common.{◌+◌, ◌≤◌, ◌++◌, length}
use Rattle.dp_telegram.specs.Stream.{cuts_of}
use Rattle.embedded_rack.specs.EmbeddedLines.{passed}
use Rattle.embedded_rack.proofs.Passing.{SoFar}
use Rattle.embedded_rack.proofs.stream.Stream.pass.Given as goal

-- the answers so far, and those to the held and the remaining octets, are all answers
abbrev pub invariant-loop-piece : goal.invariant-loop-piece
invariant-loop-piece g l = record {
  answered : SoFar (passed l.fn.book l.fn.self l.octets) (g.W.Write.contents l.fn.writer) (g.W.Write.contents l.writer) l.book l.self-inside.master (cuts_of (l.self-inside.cutter ++ l.left));
  most : length l.self-inside.cutter ≤ 255;
}

abbrev pub decreases-loop-piece : goal.decreases-loop-piece
decreases-loop-piece g l = length l.self-inside.cutter + (length l.left + length l.left)
