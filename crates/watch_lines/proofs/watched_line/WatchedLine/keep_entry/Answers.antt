use Rattle.std.proofs.Common.{refl}
use Rattle.std.proofs.lemmas.Result.{on_ok_weaker}
use Rattle.watch_lines.proofs.watched_line.WatchedLine.keep_entry.Goals as goal

pub returns-clause-kept : goal.returns-clause-kept
returns-clause-kept c = rw (← c.self.view_is)
    (on_ok_weaker c.keep.result
    (λ kept. record {
      entry = _;
      numbered = refl;
      written = refl;
      notable = rw c.as_slice.ensures.value at c.is_notable-is_notable.ensures;
      kept = kept;
    })
    c.keep.ensures)
