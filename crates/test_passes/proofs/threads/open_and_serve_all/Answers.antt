use Rattle.std.proofs.Common.{◌≡◌, List, length, map, ap, subst, sym, ◌∙◌}
use Rattle.std.specs.Prelude.{count_by, is_some}
use Rattle.std.specs.List.{AllZip}
use Rattle.dp_sessions.specs.Sessions.{Streams}
use Rattle.test_passes.specs.Threads.{IsInJournal}
use Rattle.test_passes.specs.declared.threads.Client.{Client}
use Rattle.test_passes.specs.declared.threads.Ended.{Ended}
use Rattle.test_passes.specs.declared.threads.Task.{Task}
use Rattle.test_passes.proofs.Journals.{all_of_parts, passes_counted}
use Rattle.test_passes.proofs.threads.open_and_serve_all.Given.{Over}
use Rattle.test_passes.proofs.threads.open_and_serve_all.Goals as goal

abbrev streams : (g : Over) → Client g.row.R.Denot g.row.W.Denot → Ended g.row.R.Denot g.row.W.Denot → Streams
streams g client session = record {
  left = g.R.Read.remaining client.reader;
  left_after = g.R.Read.remaining session.client.reader;
  written = g.W.Write.contents client.writer;
  written_after = g.W.Write.contents session.client.writer;
}

pub returns-clause-each : goal.returns-clause-each
returns-clause-each g c =
    subst (λ (clients : List (Client g.row.R.Denot g.row.W.Denot)). AllZip (λ client session. IsInJournal c.in_ok-closed.closed c.args.turns (streams g client session) session.end session.pass) clients c.in_ok-closed.ended.items)
    c.in_ok-tasks.ensures.clients
    (all_of_parts (λ (task : Task g.row.R.Denot g.row.W.Denot). task.client)
    (λ client session. IsInJournal c.in_ok-closed.closed c.args.turns (streams g client session) session.end session.pass) c.in_ok-tasks.tasks.items c.in_ok-closed.ended.items c.in_ok-closed.ensures.each)

pub returns-clause-all : goal.returns-clause-all
returns-clause-all g c =
    c.in_ok-closed.ensures.all (
    passes_counted (λ (session : Ended g.row.R.Denot g.row.W.Denot). session.pass) c.in_ok-closed.ended.items
    ∙ ap (count_by (λ (session : Ended g.row.R.Denot g.row.W.Denot). is_some session.pass)) (sym c.deref.ensures.value)
    ∙ sym c.accepted.ensures ∙ sym c.if-opened-accepted.false ∙ c.opened.ensures
    )
