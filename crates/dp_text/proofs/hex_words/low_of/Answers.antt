use Rattle.std.proofs.Common.{◌+◌, get_or, arith, ap, ◌∙◌}
use Rattle.dp_text.specs.declared.hex_words.TheConstants.{VALUES}
use Rattle.dp_text.proofs.HexTable.{low_at}
use Rattle.dp_text.proofs.hex_words.low_of.Goals as goal

pub returns : goal.returns
returns c = ap (λ index. get_or VALUES (256 + index) 0) c.from.ensures ∙ low_at c.args.digit (omega arith)
