use Rattle.std.proofs.Common.{◌≡◌, ℕ, List, Result, Ok, Err, OnOk, sym, ap, subst, ◌∙◌}
use Rattle.explain_texts.specs.Followed.{after_row, event_taken}
use Rattle.watch_lines.specs.declared.watched_line.Header.{Header}
use Rattle.watch_lines.specs.declared.watched_line.Header.TheVariants as headers
use Rattle.watch_lines.specs.Watched.{KeepsEvent, TakesRow, WatchedView, event_behind, follower_after, header_after, next_front}
use Rattle.watch_lines.proofs.watched_line.WatchedLine.take_row.Goals as goal

-- what a row behind the header does
takes : (watched new : WatchedView) (row : List ℕ) (number : ℕ) → watched.header ≡ headers.Accepted
    → new ≡ record watched { follower = after_row watched.follower row; begun = 0; kept = new.kept }
    → KeepsEvent (event_taken watched.follower row) number (next_front watched.follower) watched.kept new.kept → TakesRow watched row number new
takes watched new row number accepted is kept = record {
  line = ap (λ (w : WatchedView). w.line) is;
  file = ap (λ (w : WatchedView). w.file) is;
  header = ap (λ (w : WatchedView). w.header) is ∙ accepted ∙ ap (header_after watched row) (sym accepted);
  follower = ap (λ (w : WatchedView). w.follower) is ∙ ap (follower_after watched row) (sym accepted);
  begun = ap (λ (w : WatchedView). w.begun) is;
  kept = subst (λ (header : Header). KeepsEvent (event_behind watched row header) number (next_front watched.follower) watched.kept new.kept) (sym accepted) kept;
}

takes_on_ok : {T E : Type 0} (result : Result T E) (watched new : WatchedView) (row : List ℕ) (number : ℕ) → watched.header ≡ headers.Accepted
    → OnOk result (new ≡ record watched { follower = after_row watched.follower row; begun = 0; kept = new.kept })
    → OnOk result (KeepsEvent (event_taken watched.follower row) number (next_front watched.follower) watched.kept new.kept) → OnOk result (TakesRow watched row number new)
takes_on_ok (Ok done) watched new row number accepted is kept = takes watched new row number accepted is kept
takes_on_ok (Err fault) watched new row number accepted is kept = tt

pub returns-in-Accepted : goal.returns-in-Accepted
returns-in-Accepted c = rw (← c.self.view_is)
    (takes_on_ok c.take_entry.result _ c.take_entry.new.self c.args.row.now c.args.number c.in-Accepted.is c.take_entry.ensures.follower c.take_entry.ensures.kept)
