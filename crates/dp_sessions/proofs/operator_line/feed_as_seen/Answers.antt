use Rattle.std.proofs.Common.{refl}
use Rattle.dp_sessions.proofs.RecordingLines.{event_any, event_gains, gains_none}
use Rattle.dp_sessions.proofs.operator_line.feed_as_seen.Goals as goal

pub returns-in_default-clause-recorded : goal.returns-in_default-clause-recorded
returns-in_default-clause-recorded g c = gains_none (g.G.Gate.recorded c.args.gate.now c.args.pass.now.line) c.args.pass.now.view c.args.pass.now.view refl

pub returns-in-Some-place-clause-recorded : goal.returns-in-Some-place-clause-recorded
returns-in-Some-place-clause-recorded g c =
    event_gains c.record-recorded.result (g.G.Gate.recorded c.args.gate.now) c.args.pass.now.line c.line-number.result c.args.pass.now.view c.operate-receipt.new.pass.view c.operate-receipt.result
    c.line-number.ensures c.operate-receipt.ensures.pass c.record-recorded.ensures

pub returns-in-Some-place-clause-unrecorded : goal.returns-in-Some-place-clause-unrecorded
returns-in-Some-place-clause-unrecorded g c =
    event_any c.record-recorded.result c.args.pass.now.view c.operate-receipt.new.pass.view c.operate-receipt.result c.operate-receipt.ensures.pass

pub returns-in-None-clause-recorded : goal.returns-in-None-clause-recorded
returns-in-None-clause-recorded g c =
    event_gains c.record-recorded.result (g.G.Gate.recorded c.args.gate.now) c.args.pass.now.line c.line-number.result c.args.pass.now.view c.operate-receipt.new.pass.view c.operate-receipt.result
    c.line-number.ensures c.operate-receipt.ensures.pass c.record-recorded.ensures

pub returns-in-None-clause-unrecorded : goal.returns-in-None-clause-unrecorded
returns-in-None-clause-unrecorded g c =
    event_any c.record-recorded.result c.args.pass.now.view c.operate-receipt.new.pass.view c.operate-receipt.result c.operate-receipt.ensures.pass
