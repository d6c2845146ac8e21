use Rattle.std.proofs.Common.{append_assoc, refl}
use Rattle.std.proofs.Output.{has_written_of_eq}
use Rattle.explain_events.proofs.prm_fault.UserParametersDisplay.fmt.Goals as goal

pub returns-clause-writes : goal.returns-clause-writes
returns-clause-writes g c =
    let wrote = rw (c.word_for-word.ensures) at c.write.ensures.writes in
    λ plain ok. has_written_of_eq _ _ _ _ _ (simp append_assoc refl) (wrote plain ok)
