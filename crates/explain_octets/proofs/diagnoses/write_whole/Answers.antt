-- The parts that are written are those of the text.
use Rattle.std.proofs.Common.{append_assoc, refl}
use Rattle.std.proofs.Output.{has_written_of_eq}
use Rattle.explain_octets.specs.Diagnoses.{whole_text}
use Rattle.explain_octets.proofs.diagnoses.write_whole.Goals as goal

pub returns : goal.returns
unfolding whole_text
returns g c =
    let wrote = rw c.behind_head.ensures at c.write.ensures.writes in
    λ plain ok. has_written_of_eq _ _ _ _ _ (simp append_assoc refl) (wrote plain ok)
