use Rattle.std.proofs.Common.{◌≡◌, ℕ, List, ◌++◌, length}
use Rattle.dp_sessions.specs.Operating.{GoesOn}
use Rattle.dp_sessions.specs.Recording.{GainsRecorded}
use Rattle.dp_shared.specs.Sending.{IsSamePass}
use Rattle.dp_sessions.proofs.operator.OperatorSession.pass_octets.Given as goal

abbrev pub invariant-loop-octet : goal.invariant-loop-octet
invariant-loop-octet g l = record {
  same : IsSamePass l.fn.pass l.pass;
  driven : l.self.driven ≡ l.fn.self.driven;
  on : (done : List ℕ) × (l.octets ≡ done ++ l.left)
      × GoesOn l.fn.self.driven.items done l.fn.self.begun.items l.self.begun.items l.fn.pass.view l.pass.view (g.W.Write.contents l.fn.writer) (g.W.Write.contents l.writer);
  recorded : GainsRecorded (g.G.Gate.recorded l.gate l.fn.pass.line) l.fn.pass.view.receipts l.pass.view.receipts;
}

abbrev pub decreases-loop-octet : goal.decreases-loop-octet
decreases-loop-octet g l = length l.left
