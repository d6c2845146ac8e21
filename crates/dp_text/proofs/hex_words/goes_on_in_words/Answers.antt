use Rattle.std.proofs.Common.{◌≡◌, ◌≢◌, sym, ◌∙◌, rules}
use Rattle.std.specs.Prelude.{slice_index_or}
use Rattle.dp_text.proofs.HexPairs.{digit_behind, none_behind, space_behind}
use Rattle.dp_text.proofs.hex_words.goes_on_in_words.Goals as goal

pub returns-in-empty : goal.returns-in-empty
returns-in-empty c = sym (none_behind c.args.left.now c.in-empty.len_below)

pub returns-in-32 : goal.returns-in-32
returns-in-32 c =
    let space : slice_index_or c.args.left.now 0 0 ≡ 32 = search rules in
    c.are_hex_words.ensures ∙ space_behind c.args.left.now c.in-32.len_at_least space

pub returns-in-len1-up : goal.returns-in-len1-up
returns-in-len1-up c =
    let other : slice_index_or c.args.left.now 0 0 ≢ 32 = search rules in
    c.are_hex_words-in-len1-up.ensures ∙ digit_behind c.args.left.now c.in-len1-up.len_at_least other
