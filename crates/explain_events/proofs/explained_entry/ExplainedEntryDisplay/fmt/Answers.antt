use Rattle.std.proofs.Common.{append_assoc}
use Rattle.std.proofs.Output.{has_written_of_eq}
use Rattle.explain_events.proofs.explained_entry.ExplainedEntryDisplay.fmt.Goals as goal

pub returns-clause-writes : goal.returns-clause-writes
returns-clause-writes g c =
    let wrote = rw c.new-event.ensures at c.write.ensures.writes in
    λ plain ok. has_written_of_eq _ _ _ _ _ (rw (← c.context.view_is) (simp append_assoc)) (wrote plain ok)
