use Rattle.std.proofs.Common.{◌≡◌, ◌+◌, ◌-◌, ◌≤◌}
use Rattle.dp_sessions.specs.Recording.{GainsRecorded}
use Rattle.dp_sessions.proofs.Listening.{IsListening}
use Rattle.dp_sessions.proofs.operator.OperatorSession.run.Given as goal

abbrev pub invariant-loop-made : goal.invariant-loop-made
invariant-loop-made g l = record {
  ours : l.pass.table ≡ l.fn.pass.table;
  number : l.pass.line ≡ l.fn.pass.line;
  address : l.pass.view.address ≡ l.fn.pass.view.address;
  driven : l.self.driven ≡ l.fn.self.driven;
  within : l.made ≤ l.turns;
  counted : g.C.Reads.reads l.reader ≤ g.C.Reads.reads l.fn.reader + l.made;
  way : IsListening l.fn.self.driven.items l.made l.self.begun.items l.fn.pass.view l.pass.view (g.R.Read.remaining l.fn.reader) (g.R.Read.remaining l.reader) (g.W.Write.contents l.fn.writer) (g.W.Write.contents l.writer);
  recorded : GainsRecorded (g.G.Gate.recorded l.gate l.fn.pass.line) l.fn.pass.view.receipts l.pass.view.receipts;
}

abbrev pub decreases-loop-made : goal.decreases-loop-made
decreases-loop-made g l = l.turns - l.made
