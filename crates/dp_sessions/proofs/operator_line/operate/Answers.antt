use Rattle.std.proofs.Common.{ap, refl}
use Rattle.dp_shared.specs.declared.line_view.PassView.{PassView}
use Rattle.dp_sessions.proofs.RecordingLines.{event_any, event_gains, gains_none}
use Rattle.dp_sessions.proofs.operator_line.operate.Goals as goal

pub returns-in-Event-clause-recorded : goal.returns-in-Event-clause-recorded
returns-in-Event-clause-recorded g c =
    event_gains c.record.result (g.G.Gate.recorded c.args.gate.now) c.args.pass.now.line c.line-number.result c.args.pass.now.view c.operate-receipt.new.pass.view c.operate-receipt.result
    c.line-number.ensures c.operate-receipt.ensures.pass c.record.ensures

pub returns-in-Event-clause-unrecorded : goal.returns-in-Event-clause-unrecorded
returns-in-Event-clause-unrecorded g c =
    event_any c.record.result c.args.pass.now.view c.operate-receipt.new.pass.view c.operate-receipt.result c.operate-receipt.ensures.pass

-- a look gains no receipt
pub returns-in-Owned-clause-recorded : goal.returns-in-Owned-clause-recorded
returns-in-Owned-clause-recorded g c =
    gains_none (g.G.Gate.recorded c.args.gate.now c.args.pass.now.line) c.args.pass.now.view c.owned.new.pass.view (ap (λ (w : PassView). w.receipts) c.owned.ensures.look)

pub returns-in-Show-clause-recorded : goal.returns-in-Show-clause-recorded
returns-in-Show-clause-recorded g c =
    gains_none (g.G.Gate.recorded c.args.gate.now c.args.pass.now.line) c.args.pass.now.view c.snapshot.new.pass.view (ap (λ (w : PassView). w.receipts) c.snapshot.ensures.look)

pub returns-in-Nothing-clause-recorded : goal.returns-in-Nothing-clause-recorded
returns-in-Nothing-clause-recorded g c = gains_none (g.G.Gate.recorded c.args.gate.now c.args.pass.now.line) c.args.pass.now.view c.args.pass.now.view refl
