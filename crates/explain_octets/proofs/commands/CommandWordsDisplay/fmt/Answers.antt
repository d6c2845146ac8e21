-- The parts that are written are those of the text.
use Rattle.std.proofs.Common.{append_assoc, refl}
use Rattle.std.proofs.Output.{has_written_of_eq}
use Rattle.explain_octets.specs.Commands.{asked_of}
use Rattle.explain_octets.proofs.commands.CommandWordsDisplay.fmt.Goals as goal

pub returns-clause-writes : goal.returns-clause-writes
unfolding asked_of
returns-clause-writes g c =
    let wrote = rw (c.new.ensures, c.new-2.ensures, c.new-3.ensures, c.new-4.ensures, c.new-5.ensures) at c.write.ensures.writes in
    λ plain ok. has_written_of_eq _ _ _ _ _ (simp append_assoc refl) (wrote plain ok)
