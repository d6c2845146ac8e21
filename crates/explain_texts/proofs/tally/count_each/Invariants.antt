use Rattle.std.proofs.Common.{◌≡◌, length}
use Rattle.explain_texts.specs.Tallies.{counted_each}
use Rattle.explain_texts.proofs.tally.count_each.Given as goal

abbrev pub invariant-loop-left : goal.invariant-loop-left
invariant-loop-left l = counted_each l.context l.master l.request l.some l.left l.tally ≡ counted_each l.context l.master l.request l.some l.pairs l.initial.tally

abbrev pub decreases-loop-left : goal.decreases-loop-left
decreases-loop-left l = length l.left
