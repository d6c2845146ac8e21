use Rattle.std.proofs.Common.{◌≡◌, ◌≢◌, sym, ◌∙◌, rules}
use Rattle.std.specs.Prelude.{slice_index_or}
use Rattle.dp_text.proofs.HexPairs.{behind_pair, ended, goes_on, not_paired, spaced, too_short}
use Rattle.dp_text.proofs.hex_words.are_hex_words.Goals as goal

pub returns-in_default : goal.returns-in_default
returns-in_default c = sym (too_short c.loop-left.left.now c.in_default.len_below) ∙ c.loop-left.invariant

pub returns-then-not-is_pair : goal.returns-then-not-is_pair
returns-then-not-is_pair c =
    sym (not_paired c.loop-left.left.now c.in-len2-up.len_at_least (sym c.is_pair.ensures ∙ c.if-not-is_pair.true)) ∙ c.loop-left.invariant

pub returns-in-empty : goal.returns-in-empty
returns-in-empty c =
    sym (ended c.loop-left.left.now c.in-len2-up.len_at_least (sym c.is_pair.ensures ∙ c.if-not-is_pair.false) c.in-empty.len_below) ∙ c.loop-left.invariant

pub loop-left-preserved-in-32 : goal.loop-left-preserved-in-32
loop-left-preserved-in-32 c =
    let space : slice_index_or (behind_pair c.loop-left.left.now) 0 0 ≡ 32 = search rules in
    spaced c.loop-left.left.now c.in-len2-up.len_at_least (sym c.is_pair.ensures ∙ c.if-not-is_pair.false) c.in-32.len_at_least space ∙ c.loop-left.invariant

pub loop-left-preserved : goal.loop-left-preserved
loop-left-preserved c =
    let other : slice_index_or (behind_pair c.loop-left.left.now) 0 0 ≢ 32 = search rules in
    goes_on c.loop-left.left.now c.in-len2-up.len_at_least (sym c.is_pair.ensures ∙ c.if-not-is_pair.false) c.in-len1-up.len_at_least other ∙ c.loop-left.invariant
