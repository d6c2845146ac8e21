use Rattle.std.proofs.Common.{◌≡◌, sym, subst}
use Rattle.std.specs.List.{AllByRecursion}
use Rattle.dp_shared.specs.LineLock.{IsPassOf}
use Rattle.dp_shared.specs.Passes.{PassIn, table_of}
use Rattle.dp_sessions.specs.Sessions.{Streams}
use Rattle.dp_sessions.specs.declared.jobs.Job.{Job}
use Rattle.test_passes.proofs.PoolJournals.{all_answered, all_ours}
use Rattle.test_passes.proofs.pools.serve_and_close.Given.{Over}
use Rattle.test_passes.proofs.pools.serve_and_close.Goals as goal

abbrev streams : (g : Over) → Job g.row.R.Denot g.row.W.Denot → Job g.row.R.Denot g.row.W.Denot → Streams
streams g taken left = record {
  left = g.R.Read.remaining taken.reader;
  left_after = g.R.Read.remaining left.reader;
  written = g.W.Write.contents taken.writer;
  written_after = g.W.Write.contents left.writer;
}

pub run_pool-requires-clause-seats : goal.run_pool-requires-clause-seats
run_pool-requires-clause-seats g c κs within = rw c.from_ref-ports.ensures.value c.requires.seats

pub close_with-requires-clause-returned_pass : goal.close_with-requires-clause-returned_pass
close_with-requires-clause-returned_pass g c =
    subst (AllByRecursion (λ (pass : PassIn). pass.table ≡ table_of c.args.port.line)) (sym c.in_ok-passes.ensures)
    (all_ours (streams g) (g.G.Gate.recorded c.args.gate.now) c.args.turns c.args.port c.in_ok-served.served.items (rw c.from_ref-ports.ensures.value at c.in_ok-served.ensures.kept))

pub returns-in-Ok : goal.returns-in-Ok
returns-in-Ok g c = record {
  workers = c.in_ok-served.served.items;
  count_is = rw c.deref.ensures.value at c.count_served-count.ensures;
  served = rw c.from_ref-ports.ensures.value at c.in_ok-served.ensures.served;
  answered = all_answered (streams g) (g.G.Gate.recorded c.args.gate.now) c.args.turns c.args.port c.in-Ok.closed (c.a_master_has_its_entries.ensures.fits c.in-Ok.closed) c.in_ok-served.served.items (rw c.from_ref-ports.ensures.value at c.in_ok-served.ensures.kept)
      (subst (AllByRecursion (λ (pass : PassIn). IsPassOf c.in-Ok.closed pass.view)) c.in_ok-passes.ensures c.in-Ok.ensures.closed.4);
}
