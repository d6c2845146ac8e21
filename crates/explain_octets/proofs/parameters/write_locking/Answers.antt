-- The parts that are written are those of the text.
use Rattle.std.proofs.Common.{append_assoc, refl}
use Rattle.std.proofs.Output.{has_written_of_eq}
use Rattle.explain_octets.specs.Parameters.{locking_text}
use Rattle.explain_octets.proofs.parameters.write_locking.Goals as goal

pub returns : goal.returns
unfolding locking_text
returns g c =
    let wrote = rw (c.is_set.ensures, c.is_set-2.ensures, c.is_set-3.ensures, c.user_parameters.ensures) at c.write.ensures.writes in
    λ plain ok. has_written_of_eq _ _ _ _ _ (simp append_assoc refl) (wrote plain ok)
