-- The texts of the blocks and the parentheses are the text.
use Rattle.std.proofs.Common.{◌≡◌, true, arith, rules, sym}
use Rattle.std.specs.Prelude.{is_some}
use Rattle.std.proofs.lemmas.Grind.{common_steps}
use Rattle.explain_octets.specs.Blocks.{blocks_of}
use Rattle.explain_octets.proofs.Cutting.{texts_are_joined}
use Rattle.explain_octets.proofs.blocks.BlocksDisplay.fmt.Goals as goal

pub returns-clause-writes : goal.returns-clause-writes
returns-clause-writes g c =
    let octets = c.args.self.now.0.now in
    let some : is_some (blocks_of octets) ≡ true = search rules in
    rw (sym (texts_are_joined octets some)) (grind (arith, common_steps))
