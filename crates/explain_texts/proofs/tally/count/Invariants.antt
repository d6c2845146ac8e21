use Rattle.explain_texts.proofs.Counting.{IsPassed}
use Rattle.explain_texts.proofs.tally.count.Given as goal

abbrev pub invariant-loop-counts : goal.invariant-loop-counts
invariant-loop-counts l = IsPassed l.master l.way l.initial.tally l.tally l.counts-index
