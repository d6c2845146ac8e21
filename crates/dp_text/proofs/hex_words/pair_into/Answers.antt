use Rattle.std.proofs.Common.{sym, ◌∙◌}
use Rattle.dp_text.proofs.HexPairs.{not_paired, pair_read, too_short}
use Rattle.dp_text.proofs.hex_words.pair_into.Goals as goal

pub returns-in_default-clause-none : goal.returns-in_default-clause-none
returns-in_default-clause-none c none = too_short c.args.text.now c.in_default.len_below

pub returns-then-not-is_pair-clause-none : goal.returns-then-not-is_pair-clause-none
returns-then-not-is_pair-clause-none c none = not_paired c.args.text.now c.in-len2-up.len_at_least (sym c.is_pair.ensures ∙ c.if-not-is_pair.true)

pub returns-clause-words : goal.returns-clause-words
returns-clause-words c = pair_read c.args.text.now c.in-len2-up.len_at_least (sym c.is_pair.ensures ∙ c.if-not-is_pair.false)
