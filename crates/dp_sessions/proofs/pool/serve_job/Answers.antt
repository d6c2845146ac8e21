use Rattle.std.proofs.Common.{ap, sym, ◌∙◌, rules, arith, slice_set}
use Rattle.std.proofs.lemmas.Slice.Zip.{AllZip-long}
use Rattle.dp_sessions.proofs.Seating.{paired_at, paired_again}
use Rattle.dp_sessions.proofs.ServingJobs.{served_here}
use Rattle.dp_sessions.specs.declared.jobs.Job.{Job}
use Rattle.dp_sessions.proofs.pool.serve_job.Goals as goal

pub bounds-seats-index : goal.bounds-seats-index
bounds-seats-index g c =
    omega (arith, AllZip-long g.P.ServeAt.ours c.args.ports.now c.args.seats.now c.requires.ours, c.in-Some.ensures.lookup.3.0)

pub serve-session-requires : goal.serve-session-requires
serve-session-requires g c =
    paired_at g.P.ServeAt.ours c.args.ports.now c.args.seats.now c.from-index.result c.in-Some.here.now c.index-seats-index.result c.requires.ours c.in-Some.ensures.lookup.3.0 c.in-Some.ensures.lookup.1

pub returns-clause-ours : goal.returns-clause-ours
returns-clause-ours g c =
    paired_again g.P.ServeAt.ours c.args.ports.now c.args.seats.now c.from-index.result c.in-Some.here.now c.serve-session.new.seat c.requires.ours c.in-Some.ensures.lookup.3.0 c.in-Some.ensures.lookup.1 c.serve-session.ensures.ours

pub returns-clause-known : goal.returns-clause-known
returns-clause-known g c = search rules

pub returns-clause-served : goal.returns-clause-served
returns-clause-served g c = record {
  port_is = ap (λ (job : Job g.row.R.Denot g.row.W.Denot). job.port) (sym c.of-taken.ensures);
  before = c.args.seats.now;
  after = slice_set c.args.seats.now c.from-index.result c.serve-session.new.seat;
  at = served_here _ c.args.ports.now _ c.from-index.result c.args.seats.now c.in-Some.here.now c.index-seats-index.result c.serve-session.new.seat c.serve-session.result
      (c.from-index.ensures ∙ ap (λ (job : Job g.row.R.Denot g.row.W.Denot). job.port) (sym c.of-taken.ensures)) c.in-Some.ensures.lookup.3.0 (omega (arith, AllZip-long g.P.ServeAt.ours c.args.ports.now c.args.seats.now c.requires.ours, c.in-Some.ensures.lookup.3.0))
      c.in-Some.ensures.lookup.1 (rw (c.of-taken.ensures, c.of.ensures) c.serve-session.ensures.served);
}
