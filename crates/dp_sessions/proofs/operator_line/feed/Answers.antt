use Rattle.std.proofs.Common.{ap}
use Rattle.dp_shared.specs.declared.line_view.PassView.{PassView}
use Rattle.dp_sessions.proofs.RecordingLines.{any_from, gains_from, ok_gains_as}
use Rattle.dp_sessions.proofs.operator_line.feed.Goals as goal

pub returns-clause-recorded : goal.returns-clause-recorded
returns-clause-recorded g c =
    gains_from c.feed_as_seen.result.recorded (g.G.Gate.recorded c.args.gate.now c.args.pass.now.line) c.args.pass.now.view c.snapshot-seen.new.pass.view c.feed_as_seen.new.pass.view
    (ap (λ (w : PassView). w.receipts) c.snapshot-seen.ensures.look)
    (ok_gains_as c.feed_as_seen.result.recorded (g.G.Gate.recorded c.args.gate.now) c.args.pass.now.line c.snapshot-seen.new.pass.line
    c.snapshot-seen.new.pass.view.receipts c.feed_as_seen.new.pass.view.receipts c.snapshot-seen.ensures.line c.feed_as_seen.ensures.recorded)

pub returns-clause-unrecorded : goal.returns-clause-unrecorded
returns-clause-unrecorded g c =
    any_from c.feed_as_seen.result.recorded c.args.pass.now.view c.snapshot-seen.new.pass.view c.feed_as_seen.new.pass.view
    (ap (λ (w : PassView). w.receipts) c.snapshot-seen.ensures.look) c.feed_as_seen.ensures.unrecorded
