use Rattle.std.proofs.Common.{refl}
use Rattle.dp_sessions.proofs.Operating.{line_served, line_broken, not_ended, on_ok, on_failed, served_octet}
use Rattle.dp_sessions.proofs.RecordingLines.{gains_none, line_stopped}
use Rattle.dp_sessions.proofs.operator.OperatorSession.take.Goals as goal

pub returns-then-octet-eq-LF-clause-ok : goal.returns-then-octet-eq-LF-clause-ok
returns-then-octet-eq-LF-clause-ok g c =
    on_ok c.end_line.result
    (λ answer. record {
      served = line_served c.args.self.now.driven.items c.args.self.now.begun.items c.end_line.new.self.begun.items c.args.octet c.args.pass.now.view c.end_line.new.pass.view
          c.end_line.new.text (g.W.Write.contents c.args.writer.now) (g.W.Write.contents c.end_line.new.writer) c.if-octet-eq-LF.true c.end_line.ensures.begun c.end_line.ensures.answered answer.written;
      recorded = answer.recorded;
    })
    c.end_line.ensures.ok

pub returns-then-octet-eq-LF-clause-err : goal.returns-then-octet-eq-LF-clause-err
returns-then-octet-eq-LF-clause-err g c =
    on_failed c.end_line.result
    (λ answer. record {
      broken = line_broken c.args.self.now.driven.items c.args.self.now.begun.items c.args.octet c.args.pass.now.view c.end_line.new.pass.view
          c.end_line.new.text (g.W.Write.contents c.args.writer.now) (g.W.Write.contents c.end_line.new.writer) c.if-octet-eq-LF.true c.end_line.ensures.answered answer.written;
      recorded = line_stopped c.args.self.now.driven.items (g.G.Gate.recorded c.args.gate.now c.args.pass.now.line) c.args.self.now.begun.items c.args.octet
          c.args.pass.now.view c.end_line.new.pass.view c.end_line.new.text (g.W.Write.contents c.args.writer.now) (g.W.Write.contents c.end_line.new.writer)
          c.if-octet-eq-LF.true c.end_line.ensures.answered answer.written answer.recorded;
    })
    c.end_line.ensures.err

pub returns-clause-ok : goal.returns-clause-ok
returns-clause-ok g c = record {
  served = served_octet c.args.self.now.driven.items c.args.self.now.begun.items c.keep.new.self.begun.items c.args.octet c.args.pass.now.view c.args.pass.now.view (g.W.Write.contents c.args.writer.now)
      (not_ended c.args.octet c.if-octet-eq-LF.false) refl c.keep.ensures.begun;
  recorded = gains_none (g.G.Gate.recorded c.args.gate.now c.args.pass.now.line) c.args.pass.now.view c.args.pass.now.view refl;
}
