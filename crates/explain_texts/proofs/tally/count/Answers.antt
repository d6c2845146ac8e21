use Rattle.std.proofs.Common.{sym, ◌∙◌}
use Rattle.explain_texts.proofs.Counting.{none_passed, one_passed, counted_here}
use Rattle.explain_texts.proofs.tally.count.Goals as goal

pub loop-counts-init : goal.loop-counts-init
loop-counts-init c = none_passed c.args.master c.args.way c.args.tally.now

pub returns-then-is_for : goal.returns-then-is_for
returns-then-is_for c =
    counted_here c.args.master c.args.way c.args.tally.now c.loop-counts.tally c.loop-counts.counts-index _ c.add.new.self
    c.loop-counts-test.true (sym c.is_for.ensures ∙ c.if-is_for.true) c.loop-counts.invariant c.add.ensures

pub loop-counts-preserved : goal.loop-counts-preserved
loop-counts-preserved c =
    one_passed c.args.master c.args.way c.args.tally.now c.loop-counts.tally c.loop-counts.counts-index _
    c.loop-counts-test.true (sym c.is_for.ensures ∙ c.if-is_for.false) c.loop-counts.invariant
