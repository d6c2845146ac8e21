use Rattle.std.proofs.Common.{[], refl, inl, inr, arith}
use Rattle.dp_sessions.proofs.Exchanging.{consumes_none}
use Rattle.dp_sessions.proofs.Recording.{accepts_first, accepts_not}
use Rattle.dp_sessions.proofs.exchange.accept.Goals as goal

pub returns-in-Ok-clause-accepted : goal.returns-in-Ok-clause-accepted
returns-in-Ok-clause-accepted g c =
    let exchanged = c.serve_pass_by.ensures.exchanged in
    (exchanged.stream, exchanged.made, exchanged.read, exchanged.most, inr (g.W.Write.contents c.write_whole.new.writer, c.in-Ok.ensures.ok, exchanged.exchanged))

pub returns-in-Err-clause-accepted : goal.returns-in-Err-clause-accepted
returns-in-Err-clause-accepted g c =
    ([], 0, consumes_none (g.R.Read.remaining c.args.reader.now), omega arith, inl (refl, refl, refl, c.in-Err.ensures.err))

pub returns-in-Ok-clause-recorded : goal.returns-in-Ok-clause-recorded
returns-in-Ok-clause-recorded g c =
    accepts_first (g.G.Gate.recorded c.args.gate.now c.args.pass.now.line) c.args.pass.now.view.receipts c.serve_pass_by.new.pass.view.receipts
    (g.W.Write.contents c.args.writer.now) (g.W.Write.contents c.write_whole.new.writer) (g.W.Write.contents c.serve_pass_by.new.writer) c.serve_pass_by.result
    c.in-Ok.ensures.ok c.serve_pass_by.ensures.recorded

pub returns-in-Err-clause-recorded : goal.returns-in-Err-clause-recorded
returns-in-Err-clause-recorded g c =
    accepts_not (g.G.Gate.recorded c.args.gate.now c.args.pass.now.line) c.args.pass.now.view.receipts (g.W.Write.contents c.args.writer.now) (g.W.Write.contents c.write_whole.new.writer)
    c.in-Err.ensures.err
