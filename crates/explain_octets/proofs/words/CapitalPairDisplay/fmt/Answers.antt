-- An octet is written by its two hex digits.
use Rattle.std.proofs.Common.{arith, true}
use Rattle.std.proofs.lemmas.Fmt.{hex_byte}
use Rattle.std.proofs.Output.{has_written_of_eq}
use Rattle.explain_octets.proofs.words.CapitalPairDisplay.fmt.Goals as goal

pub returns-clause-writes : goal.returns-clause-writes
returns-clause-writes g c =
    let wrote = rw (c.laid_out.ensures, c.in_radix.ensures) at c.write.ensures.writes in
    λ plain ok. has_written_of_eq _ _ _ _ _ (hex_byte true c.args.self.now.0 (omega arith)) (wrote plain ok)
