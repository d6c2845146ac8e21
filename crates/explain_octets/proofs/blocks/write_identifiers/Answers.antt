-- The word and the numbers are the text.
use Rattle.std.proofs.Common.{arith, sym}
use Rattle.std.proofs.lemmas.Grind.{common_steps}
use Rattle.explain_octets.proofs.Bits.{word_and_numbers}
use Rattle.explain_octets.proofs.blocks.write_identifiers.Goals as goal

pub returns : goal.returns
returns g c = rw (sym (word_and_numbers c.args.octets.now)) (grind (arith, common_steps))
