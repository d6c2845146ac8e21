use Rattle.std.proofs.Common.{◌≡◌, ◌+◌, ◌≤◌, ℕ, length, OnOk}
use Rattle.dp_shared.specs.declared.line_view.PassView.{PassView}
use Rattle.dp_sessions.specs.Operators.{AreFed}
use Rattle.dp_sessions.specs.Recording.{Gains, GainsRecorded}
use Rattle.dp_sessions.proofs.operator_line.feed_each.Given as goal

-- the inputs of the slaves that are left complete the whole
abbrev pub invariant-loop-slave : goal.invariant-loop-slave
invariant-loop-slave g l = record {
  ours : l.pass.table ≡ l.fn.pass.table;
  number : l.pass.line ≡ l.fn.pass.line;
  address : l.pass.view.address ≡ l.fn.pass.view.address;
  fed : (after : PassView) (rest : ℕ) → AreFed l.left l.pass.view after rest → AreFed l.driven l.fn.pass.view after (l.count + rest);
  room : l.count + length l.left ≤ length l.driven;
  recorded : OnOk l.recorded (GainsRecorded (g.G.Gate.recorded l.gate l.fn.pass.line) l.fn.pass.view.receipts l.pass.view.receipts);
  gains : Gains l.fn.pass.view.receipts l.pass.view.receipts;
}

abbrev pub decreases-loop-slave : goal.decreases-loop-slave
decreases-loop-slave g l = length l.left
