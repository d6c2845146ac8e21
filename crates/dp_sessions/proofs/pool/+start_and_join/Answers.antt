use Rattle.std.proofs.lemmas.List.Elements.{All-push, All-same}
use Rattle.dp_sessions.specs.KeptSessions.{AreServed}
use Rattle.dp_sessions.proofs.pool.+start_and_join.Goals as goal

pub returns-clause-served : goal.returns-clause-served
returns-clause-served g t c =
    let served : g.row.S.Denot → Type 0 = λ sessions. AreServed
    (λ port taken left. g.P.ServeAt.serves port (g.G.Gate.recorded c.args.gate.now) c.args.turns
    (record { left = g.R.Read.remaining taken.reader; left_after = g.R.Read.remaining left.reader; written = g.W.Write.contents taken.writer; written_after = g.W.Write.contents left.writer }))
    c.args.ports.now c.args.room (g.S.Keep.sessions sessions) in
    let promised = rw c.in_ok-handle.was at c.start_worker.ensures in
    let joined : served c.join.result = rw (promised.0, promised.1, promised.2, promised.3) at c.join.ensures in
    All-same served _ _ c.push_reserved.ensures.items (All-push served c.in_ok-all.all.items c.join.result c.in_ok-all.ensures.served joined)
