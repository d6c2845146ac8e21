use Rattle.std.proofs.Common.{◌≡◌, List, ◌++◌, map, length, Option, ap, sym, subst, ◌∙◌}
use Rattle.std.specs.List.{AllByRecursion, AllZip, filter_map}
use Rattle.std.specs.declared.snapshot.Snapshot.{Snapshot}
use Rattle.dp_shared.specs.LineLock.{IsPassOf}
use Rattle.dp_shared.specs.Numbers.{AllDiffer}
use Rattle.dp_shared.specs.Passes.{PassIn, table_of}
use Rattle.dp_shared.specs.declared.line_view.PassView.{PassView}
use Rattle.dp_sessions.specs.Sessions.{Streams}
use Rattle.test_passes.specs.Threads.{IsInJournal, passes_in}
use Rattle.test_passes.specs.declared.threads.Task.{Task}
use Rattle.test_passes.specs.declared.threads.Ended.{Ended}
use Rattle.test_passes.specs.declared.threads.Served.{Served}
use Rattle.test_passes.proofs.Journals.{AreOfLine, all_in_journal, all_noted, all_ours, numbers_of_views, views_of_line}
use Rattle.test_passes.proofs.threads.serve_and_close_all.Given.{Over}
use Rattle.test_passes.proofs.threads.serve_and_close_all.Goals as goal
use Rattle.test_passes.proofs.threads.serve_and_close_all.Goals.{In-Ok}

abbrev streams : (g : Over) → Task g.row.R.Denot g.row.W.Denot → Ended g.row.R.Denot g.row.W.Denot → Streams
streams g task session = record {
  left = g.R.Read.remaining task.client.reader;
  left_after = g.R.Read.remaining session.client.reader;
  written = g.W.Write.contents task.client.writer;
  written_after = g.W.Write.contents session.client.writer;
}

pub close_with-requires-clause-returned_pass : goal.close_with-requires-clause-returned_pass
close_with-requires-clause-returned_pass g c =
    subst (AllByRecursion (λ (pass : PassIn). pass.table ≡ table_of c.args.port.line)) (sym c.in_ok-ended.ensures.returned_pass)
    (all_ours (streams g) (λ session. session.end) (λ session. session.pass) (λ (one : Served g.row.R.Denot g.row.W.Denot). one.ended) (λ one. one.returned_pass) (table_of c.args.port.line) c.args.port.claims.masters c.args.turns c.args.tasks.items c.in_ok-served.served.items c.in_ok-served.ensures)

-- the passes that were handed back, and their notes, are of the closed line
of_line : (g : _) (c : In-Ok g) → AreOfLine c.in-Ok.closed c.in_ok-ended.passes.items
of_line g c = c.in-Ok.ensures.closed.4

noted : (g : _) (c : In-Ok g) → passes_in (map (λ session. session.pass) c.in_ok-ended.ended.items) ≡ map (λ (pass : PassIn). pass.view) c.in_ok-ended.passes.items
noted g c =
    subst (λ (passes : List PassIn). passes_in (map (λ session. session.pass) c.in_ok-ended.ended.items) ≡ map (λ (pass : PassIn). pass.view) passes) (sym c.in_ok-ended.ensures.returned_pass)
    (subst (λ (sessions : List (Ended g.row.R.Denot g.row.W.Denot)). passes_in (map (λ session. session.pass) sessions) ≡ map (λ (pass : PassIn). pass.view) (filter_map (λ one. one.returned_pass) c.in_ok-served.served.items)) (sym c.in_ok-ended.ensures.ended)
    (all_noted (streams g) (λ session. session.end) (λ session. session.pass) (λ (one : Served g.row.R.Denot g.row.W.Denot). one.ended) (λ one. one.returned_pass) (table_of c.args.port.line) c.args.port.claims.masters c.args.turns c.args.tasks.items c.in_ok-served.served.items c.in_ok-served.ensures))

views_fit : (g : _) (c : In-Ok g) → AllByRecursion (IsPassOf c.in-Ok.closed) (passes_in (map (λ session. session.pass) c.in_ok-ended.ended.items))
views_fit g c = subst (AllByRecursion (IsPassOf c.in-Ok.closed)) (sym (noted g c)) (views_of_line c.in-Ok.closed c.in_ok-ended.passes.items (of_line g c))

they_differ : (g : _) (c : In-Ok g) → AllDiffer (map (λ (pass : PassView). pass.number) (passes_in (map (λ session. session.pass) c.in_ok-ended.ended.items)))
they_differ g c =
    subst AllDiffer (sym (ap (map (λ (pass : PassView). pass.number)) (noted g c) ∙ numbers_of_views c.in_ok-ended.passes.items))
    (subst (λ (none : List PassIn). AllDiffer (map (λ (pass : PassIn). pass.view.number) none ++ map (λ (pass : PassIn). pass.view.number) c.in_ok-ended.passes.items)) c.new.ensures.items c.in-Ok.ensures.closed.5)

pub returns-in-Ok-clause-each : goal.returns-in-Ok-clause-each
returns-in-Ok-clause-each g c =
    let at = (goal.at.returns-in-Ok-clause-each g c).In-Ok in
    subst (AllZip (λ task session. IsInJournal c.in-Ok.closed c.args.turns (streams g task session) session.end session.pass) c.args.tasks.items) (sym c.in_ok-ended.ensures.ended)
    (all_in_journal (streams g) (λ session. session.end) (λ session. session.pass) (λ (one : Served g.row.R.Denot g.row.W.Denot). one.ended) (λ one. one.returned_pass) (table_of c.args.port.line) c.args.port.claims.masters c.args.turns
    c.in-Ok.closed c.args.tasks.items c.in_ok-served.served.items (c.a_master_has_its_entries.ensures.fits c.in-Ok.closed) c.in_ok-served.ensures (subst (AreOfLine c.in-Ok.closed) c.in_ok-ended.ensures.returned_pass (of_line g at)))

pub returns-in-Ok-clause-apart : goal.returns-in-Ok-clause-apart
returns-in-Ok-clause-apart g c = they_differ g (goal.at.returns-in-Ok-clause-apart g c).In-Ok

pub returns-in-Ok-clause-all : goal.returns-in-Ok-clause-all
returns-in-Ok-clause-all g c =
    let at = (goal.at.returns-in-Ok-clause-all g c).In-Ok in
    let law = c.the_passes_have_all_entries.ensures in
    let of_closed = c.in-Ok.ensures.closed in
    (λ every. record {
      each = law.each c.in-Ok.closed _ of_closed.2 (views_fit g at) (they_differ g at) every;
      long = law.long c.in-Ok.closed _ of_closed.1 of_closed.2 (views_fit g at) (they_differ g at) every;
    })
