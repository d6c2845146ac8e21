use Rattle.std.proofs.Common.{ℕ, ap, sym, subst}
use Rattle.dp_shared.specs.declared.line_view.PassView.{PassView}
use Rattle.dp_shared.specs.Passes.{new_pass}
use Rattle.rack_devices.specs.DrivenSlaves.{driven_slaves}
use Rattle.dp_sessions.specs.Recorded.{HasOperatedRecorded}
use Rattle.dp_sessions.specs.Sessions.{Streams}
use Rattle.dp_sessions.proofs.operator.serve_operator_session.Goals as goal

pub returns-clause-recorded : goal.returns-clause-recorded
returns-clause-recorded g c =
    let opened = c.in-Ok.ensures.ok in
    let number = c.in-Ok.pass.view.number in
    let end = c.serve_operator_pass_by-end.result in
    let driven = driven_slaves c.args.port.now.line.table.shared.key.slaves.items in
    let streams : Streams = record {
      left = g.R.Read.remaining c.args.reader.now;
      left_after = g.R.Read.remaining c.serve_operator_pass_by-end.new.reader;
      written = g.W.Write.contents c.args.writer.now;
      written_after = g.W.Write.contents c.serve_operator_pass_by-end.new.writer;
    } in (
      number,
      subst (λ (after : PassView). HasOperatedRecorded driven (g.G.Gate.recorded c.args.gate.now c.args.port.now.line.table.shared.key.number) streams (new_pass number 127) after end)
          (sym (ap (λ p. p.view) c.hand_back-returned_pass.ensures))
          (subst (λ (before : PassView). HasOperatedRecorded driven (g.G.Gate.recorded c.args.gate.now c.args.port.now.line.table.shared.key.number) streams before c.serve_operator_pass_by-end.new.pass.view end) opened.4
          (subst (λ (n : ℕ). HasOperatedRecorded driven (g.G.Gate.recorded c.args.gate.now n) streams c.in-Ok.pass.view c.serve_operator_pass_by-end.new.pass.view end) opened.2
          c.serve_operator_pass_by-end.ensures.recorded)),
    )
