-- The parts that are written are those of the text.
use Rattle.std.proofs.Common.{append_assoc, refl}
use Rattle.std.proofs.Output.{has_written_of_eq}
use Rattle.explain_octets.specs.Blocks.{channel_text}
use Rattle.explain_octets.proofs.blocks.ChannelDisplay.fmt.Goals as goal

pub returns-clause-writes : goal.returns-clause-writes
unfolding channel_text
returns-clause-writes g c =
    let wrote = rw (c.bits_5_0-number.ensures, c.bits_5_0-identifier.ensures, c.direction.ensures, c.channel_type.ensures) at c.write.ensures.writes in
    λ plain ok. has_written_of_eq _ _ _ _ _ (simp append_assoc refl) (wrote plain ok)
