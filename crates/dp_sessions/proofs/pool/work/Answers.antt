use Rattle.std.proofs.Common.{◌∙◌, arith, subst, sym}
use Rattle.std.proofs.lemmas.List.{take_at}
use Rattle.std.specs.Iterator.{IsFinite}
use Rattle.std.specs.List.{AllZip}
use Rattle.dp_sessions.proofs.KeepingSessions.{none_served, one_served}
use Rattle.dp_sessions.proofs.pool.work.Goals as goal

pub loop-job-init : goal.loop-job-init
loop-job-init g c =
    let same = sym c.into_iter-job-iterator.ensures.into_iter_gives in (
      subst (λ jobs. g.Q.Iterator.can_next jobs) same c.requires.ready,
      subst (λ jobs. IsFinite (g.Q.Iterator.remaining jobs)) same c.requires.end,
      c.requires.seats,
      c.requires.sessions.reserved,
      none_served _ _ _ _ c.requires.sessions,
    )

pub loop-job-preserved-in-Some-served : goal.loop-job-preserved-in-Some-served
loop-job-preserved-in-Some-served g c =
    let goes = c.in-Some.ensures.goes.on c.loop-job.invariant.1 in (
      goes.0,
      goes.1,
      subst (λ seats. AllZip g.P.ServeAt.ours c.args.ports.now seats) (sym (take_at c.serve_job-served.new.seats _ _ (omega (arith, c.serve_job-served.auto.seats)))) c.serve_job-served.ensures.ours,
      c.keep.ensures.room ∙ c.loop-job.invariant.3,
      one_served _ _ _ (g.S.Keep.sessions c.loop-job.sessions) (g.S.Keep.sessions c.keep.new.self) c.in-Some-served.job c.loop-job.invariant.4 c.in-Some-served.ensures.served c.keep.ensures.served c.keep.ensures.kept,
    )
