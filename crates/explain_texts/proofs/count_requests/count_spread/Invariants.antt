use Rattle.std.proofs.Common.{◌≡◌, length}
use Rattle.explain_texts.specs.Statistics.{spread_counted}
use Rattle.explain_texts.proofs.count_requests.count_spread.Given as goal

abbrev pub invariant-loop-left : goal.invariant-loop-left
invariant-loop-left l = spread_counted l.master l.left l.statistics ≡ spread_counted l.master l.pairs l.initial.statistics

abbrev pub decreases-loop-left : goal.decreases-loop-left
decreases-loop-left l = length l.left
