use Rattle.std.proofs.Common.{sym, subst}
use Rattle.dp_shared.specs.Passes.{table_of}
use Rattle.dp_sessions.specs.Sessions.{Streams}
use Rattle.test_passes.specs.Threads.{IsServed}
use Rattle.test_passes.specs.declared.threads.Client.{Client}
use Rattle.test_passes.proofs.threads.PortServeTaskServed.serve.Given.{Over}
use Rattle.test_passes.proofs.threads.PortServeTaskServed.serve.Goals as goal

abbrev streams : (g : Over) → Client g.row.R.Denot g.row.W.Denot → Client g.row.R.Denot g.row.W.Denot → Streams
streams g before after = record {
  left = g.R.Read.remaining before.reader;
  left_after = g.R.Read.remaining after.reader;
  written = g.W.Write.contents before.writer;
  written_after = g.W.Write.contents after.writer;
}

pub returns : goal.returns
returns g c =
    let now : Client g.row.R.Denot g.row.W.Denot = record { reader = c.serve_session-session.new.reader; writer = c.serve_session-session.new.writer } in
    subst (λ client. IsServed (table_of c.args.self.now.line) c.args.self.now.claims.masters c.args.turns (streams g c.args.task.client client) c.served_as.result.ended.end c.served_as.result.ended.pass c.served_as.result.returned_pass)
    (sym c.served_as.ensures.client)
    (c.served_as.ensures.session (table_of c.args.self.now.line) c.args.self.now.claims.masters c.args.turns (streams g c.args.task.client now) _ _ c.serve_session-session.ensures.session)
