use Rattle.std.proofs.Common.{◌≡◌, ◌+◌, ◌≤◌, ◌<◌, ◌++◌, [], length, take}
use Rattle.embedded_rack.specs.EmbeddedLines.{passed}
use Rattle.embedded_rack.proofs.Passing.{WordsSoFar}
use Rattle.embedded_rack.proofs.stream.Stream.pass_words.Given as goal

-- the answers so far, and those to the decoded and the remaining octets, are all answers
abbrev pub invariant-loop-octets : goal.invariant-loop-octets
invariant-loop-octets g l = record {
  answered : WordsSoFar (passed l.fn.book l.fn.self (take l.decoded l.fn.chunk ++ l.fn.octets)) (g.W.Write.contents l.fn.writer) (g.W.Write.contents l.writer) l.book l.self (take l.count l.chunk ++ l.octets);
  count : l.count ≤ 64;
  rest : l.count < 64 → l.octets ≡ [];
}

abbrev pub decreases-loop-octets : goal.decreases-loop-octets
decreases-loop-octets g l = l.count + length l.octets
