use Rattle.std.proofs.Common.{◌≡◌, ◌+◌, ◌-◌, ◌≤◌, length}
use Rattle.dp_sessions.specs.Recording.{RepliesRecorded}
use Rattle.dp_sessions.proofs.Reading.{IsUnderWay}
use Rattle.dp_sessions.proofs.exchange.serve_pass_by.Given as goal

abbrev pub invariant-loop-made : goal.invariant-loop-made
invariant-loop-made g l = record {
  ours : l.pass.table ≡ l.fn.pass.table;
  number : l.pass.line ≡ l.fn.pass.line;
  address : l.pass.view.address ≡ l.fn.pass.view.address;
  most : length l.cutter ≤ 255;
  within : l.made ≤ l.turns;
  counted : g.C.Reads.reads l.reader ≤ g.C.Reads.reads l.fn.reader + l.made;
  way : IsUnderWay l.fn.pass.view.address l.made l.cutter l.fn.pass.view l.pass.view (g.R.Read.remaining l.fn.reader) (g.R.Read.remaining l.reader) (g.W.Write.contents l.fn.writer) (g.W.Write.contents l.writer);
  replies : RepliesRecorded (g.G.Gate.recorded l.gate l.fn.pass.line) l.fn.pass.view.receipts l.pass.view.receipts (g.W.Write.contents l.fn.writer) (g.W.Write.contents l.writer);
}

abbrev pub decreases-loop-made : goal.decreases-loop-made
decreases-loop-made g l = l.turns - l.made
