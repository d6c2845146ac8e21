use Rattle.std.proofs.Common.{refl}
use Rattle.std.proofs.Output.{has_written_of_eq}
use Rattle.explain_events.specs.Services.{acts_words}
use Rattle.explain_events.proofs.control.ActsDisplay.fmt.Goals as goal

pub returns-clause-writes : goal.returns-clause-writes
unfolding acts_words
returns-clause-writes g c =
    let wrote = rw (c.new.ensures, c.new-2.ensures, c.new-3.ensures, c.new-4.ensures, c.new-5.ensures) at c.write.ensures.writes in
    λ plain ok. has_written_of_eq _ _ _ _ _ refl (wrote plain ok)
