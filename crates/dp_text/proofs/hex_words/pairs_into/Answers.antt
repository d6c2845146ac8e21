use Rattle.std.proofs.Common.{◌+◌, ◌*◌, ◌<◌, ◌∷◌, length, drop, None, sym, ap, ◌∙◌, arith, rules}
use Rattle.std.specs.Prelude.{slice_index_or}
use Rattle.dp_text.specs.HexWords.{spelt_behind}
use Rattle.dp_text.proofs.HexPairs.{first_other, front_pair, pair_more_read, too_short}
use Rattle.dp_text.proofs.HexRows.{one_more, pair_spelt, undecoded}
use Rattle.dp_text.proofs.hex_words.pairs_into.Goals as goal

pub returns-then-not-is_pair-clause-none : goal.returns-then-not-is_pair-clause-none
returns-then-not-is_pair-clause-none c none room =
    let long : 2 * c.loop-count.count + 1 < length c.args.text.now = omega (arith, c.loop-count-test.true, c.min-most.ensures) in
    sym (undecoded c.args.text.now (first_other c.args.text.now c.loop-count.count none long (sym c.is_pair.ensures ∙ c.if-not-is_pair.true)))

pub loop-count-preserved : goal.loop-count-preserved
loop-count-preserved c =
    let text = c.args.text.now in
    let count = c.loop-count.count in
    let long : 2 * count + 1 < length text = omega (arith, c.loop-count-test.true, c.min-most.ensures) in
    let room : count < length c.loop-count.octets = omega (arith, c.loop-count-test.true, c.min-most.ensures) in
    let pair = sym c.is_pair.ensures ∙ c.if-not-is_pair.false in
    record {
      octets =
          one_more (spelt_behind None text) c.loop-count.octets (spelt_behind None (drop (2 * count) text)) (spelt_behind None (drop (2 * (count + 1)) text)) count c.octet_of.result room
          c.loop-count.invariant.octets
          (ap (spelt_behind None) (front_pair text count long)
          ∙ pair_spelt (slice_index_or text (2 * count) 0) (slice_index_or text (2 * count + 1) 0) (drop (2 * (count + 1)) text) pair
          ∙ ap (λ o. o ∷ spelt_behind None (drop (2 * (count + 1)) text)) (sym c.octet_of.ensures));
      words = λ some. pair_more_read text count long pair c.loop-count.invariant.words;
      room = search rules;
      within = omega (arith, long);
    }

pub returns-clause-none : goal.returns-clause-none
returns-clause-none c none room =
    let short : length c.args.text.now < 2 = omega (arith, none, room, c.loop-count-test.false, c.min-most.ensures) in
    sym (undecoded c.args.text.now (too_short c.args.text.now short))
