use Rattle.std.proofs.Common.{refl}
use Rattle.std.proofs.lemmas.Result.{on_ok_weaker}
use Rattle.watch_lines.proofs.watched_line.WatchedLine.keep_note.Goals as goal

pub returns-clause-kept : goal.returns-clause-kept
returns-clause-kept c = rw (← c.self.view_is)
    (on_ok_weaker c.keep.result
    (λ kept. record { entry = _; numbered = refl; written = c.in_ok-text.ensures; notable = refl; kept = kept })
    c.keep.ensures)
