use Rattle.std.proofs.Common.{◌≡◌, ◌≢◌, length, Some, ap, ◌∙◌, arith}
use Rattle.dp_text.proofs.HexSpellings.{no_octets, too_many_octets, given, not_given, overwritten}
use Rattle.dp_text.proofs.ops.octets_into.Goals as goal

pub returns-then-count-eq0 : goal.returns-then-count-eq0
returns-then-count-eq0 g c = no_octets g.row.MOST c.args.word.now c.if-count-eq0.true

pub returns-then-count : goal.returns-then-count
returns-then-count g c = too_many_octets g.row.MOST c.args.word.now c.if-count.true

pub returns-then-decodes : goal.returns-then-decodes
returns-then-decodes g c =
    let same : length c.decodes.new.octets ≡ length c.try_extend_from_slice.new.self.items = c.decodes.auto.octets ∙ ap length c.as_mut_slice.ensures.value in
    let filled : length c.args.word.now ≢ 0 = λ none. c.if-count-eq0.false (omega (arith, none)) in
    ap Some (overwritten c.decodes.new.octets c.try_extend_from_slice.new.self.items same)
    ∙ given g.row.MOST c.args.word.now c.decodes.new.octets c.if-decodes.ensures (omega (arith, same)) filled

pub returns-else-decodes : goal.returns-else-decodes
returns-else-decodes g c =
    let filled : length c.args.word.now ≢ 0 = λ none. c.if-count-eq0.false (omega (arith, none)) in
    not_given g.row.MOST c.args.word.now c.if-decodes.ensures filled
