use Rattle.std.proofs.Common.{◌==◌}
use Rattle.dp_text.proofs.Parts.{part_found, part_is_all}
use Rattle.dp_text.proofs.words.first_part.Goals as goal

pub returns-in-Some : goal.returns-in-Some
returns-in-Some c = part_found (λ octet. octet == c.args.separator) c.args.text.now c.in-Some.index c.in-Some.ensures.index

pub returns-in-None : goal.returns-in-None
returns-in-None c = part_is_all (λ octet. octet == c.args.separator) c.args.text.now c.in-None.ensures.index
