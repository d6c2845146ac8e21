use Rattle.std.proofs.Common.{◌≡◌, vec_capacity}
use Rattle.std.specs.List.{AllZip}
use Rattle.dp_sessions.specs.KeptSessions.{AreServed}
use Rattle.dp_sessions.proofs.pool.work.Given as goal

abbrev pub invariant-loop-job : goal.invariant-loop-job
invariant-loop-job g l =
    (goal.iterator-loop-job g).can_next l.job-iterator × (goal.iterator-loop-job g).is_finite l.job-iterator
    × AllZip g.P.ServeAt.ours l.ports l.seats.items
    × (vec_capacity (g.S.Keep.sessions l.sessions).kept ≡ l.room)
    × AreServed
    (λ port taken left. g.P.ServeAt.serves port (g.G.Gate.recorded l.gate) l.turns
    (record { left = g.R.Read.remaining taken.reader; left_after = g.R.Read.remaining left.reader; written = g.W.Write.contents taken.writer; written_after = g.W.Write.contents left.writer }))
    l.ports l.room (g.S.Keep.sessions l.sessions)
