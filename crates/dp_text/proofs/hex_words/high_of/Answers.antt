use Rattle.std.proofs.Common.{get_or, arith, ap, ◌∙◌}
use Rattle.dp_text.specs.declared.hex_words.TheConstants.{VALUES}
use Rattle.dp_text.proofs.HexTable.{high_at}
use Rattle.dp_text.proofs.hex_words.high_of.Goals as goal

pub returns : goal.returns
returns c = ap (λ index. get_or VALUES index 0) c.from.ensures ∙ high_at c.args.digit (omega arith)
