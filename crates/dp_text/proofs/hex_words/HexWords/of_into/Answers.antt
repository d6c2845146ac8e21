use Rattle.std.proofs.Common.{◌≡◌, ◌≢◌, ◌++◌, take, None, refl, sym, ◌∙◌, rules}
use Rattle.std.specs.Prelude.{slice_index_or}
use Rattle.dp_text.specs.HexWords.{spelt_behind}
use Rattle.dp_text.proofs.HexPairs.{digit_behind, none_behind, space_behind}
use Rattle.dp_text.proofs.HexRows.{decoded, one_more, space_spells, undecoded}
use Rattle.dp_text.proofs.hex_words.HexWords.of_into.Goals as goal

pub returns-in-empty-clause-read : goal.returns-in-empty-clause-read
returns-in-empty-clause-read c =
    decoded c.args.text.now (take c.loop-count.count c.loop-count.octets ++ spelt_behind None c.loop-count.left.now)
    (sym c.loop-count.invariant.digits ∙ none_behind c.loop-count.left.now c.in-empty.len_below) c.loop-count.invariant.octets

pub loop-count-preserved-in-32 : goal.loop-count-preserved-in-32
loop-count-preserved-in-32 c =
    let left = c.loop-count.left.now in
    let space : slice_index_or left 0 0 ≡ 32 = search rules in
    let step = c.in_ok-left-in-32.ensures in
    record {
      digits = step.words ∙ space_behind left c.in-32.len_at_least space ∙ c.loop-count.invariant.digits;
      octets =
          one_more (spelt_behind None c.args.text.now) c.loop-count.octets (spelt_behind None left) (spelt_behind None c.in_ok-left-in-32.left.now) c.loop-count.count c.pair_into.new.octet
          c.loop-count-test.true c.loop-count.invariant.octets (space_spells left c.in-32.len_at_least space ∙ step.octet);
      room = search rules;
    }

pub returns-in_err-left-in-len1-up-clause-read : goal.returns-in_err-left-in-len1-up-clause-read
returns-in_err-left-in-len1-up-clause-read c =
    let left = c.loop-count.left.now in
    let other : slice_index_or left 0 0 ≢ 32 = search rules in
    rw c.from_residual-in_err-left-in-len1-up.ensures
    (undecoded c.args.text.now (sym c.loop-count.invariant.digits ∙ sym (digit_behind left c.in-len1-up.len_at_least other) ∙ c.in_err-left-in-len1-up.ensures.none refl))

pub loop-count-preserved : goal.loop-count-preserved
loop-count-preserved c =
    let left = c.loop-count.left.now in
    let other : slice_index_or left 0 0 ≢ 32 = search rules in
    let step = c.in_ok-left-in-len1-up.ensures in
    record {
      digits = step.words ∙ digit_behind left c.in-len1-up.len_at_least other ∙ c.loop-count.invariant.digits;
      octets =
          one_more (spelt_behind None c.args.text.now) c.loop-count.octets (spelt_behind None left) (spelt_behind None c.in_ok-left-in-len1-up.left.now) c.loop-count.count c.pair_into-in-len1-up.new.octet
          c.loop-count-test.true c.loop-count.invariant.octets step.octet;
      room = search rules;
    }

pub returns-then-goes_on_in_words-clause-read : goal.returns-then-goes_on_in_words-clause-read
returns-then-goes_on_in_words-clause-read c =
    decoded c.args.text.now (take c.loop-count.count c.loop-count.octets ++ spelt_behind None c.loop-count.left.now)
    (sym c.loop-count.invariant.digits ∙ sym c.goes_on_in_words.ensures ∙ c.if-goes_on_in_words.true) c.loop-count.invariant.octets
