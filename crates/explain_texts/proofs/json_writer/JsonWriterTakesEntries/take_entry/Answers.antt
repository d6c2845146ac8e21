use Rattle.std.proofs.Common.{ℕ, List, subst, ◌∙◌}
use Rattle.explain_texts.specs.Written.{LeavesFrom}
use Rattle.explain_texts.proofs.json_writer.JsonWriterTakesEntries.take_entry.Goals as goal

pub returns-in-Ok : goal.returns-in-Ok
returns-in-Ok g c =
    let old = g.W.Write.contents c.args.self.now.writer in
    let new = g.W.Write.contents c.write_after.new.writer in
    subst (λ (front : List ℕ). LeavesFrom front old new c.write_after.result) (c.as_bytes.ensures ∙ c.entry_front-front.ensures) c.write_after.ensures
