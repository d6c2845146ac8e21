use Rattle.std.proofs.Common.{◌≡◌, length}
use Rattle.explain_texts.specs.Statistics.{all_lasting_counted}
use Rattle.explain_texts.proofs.count_holds.count_all_lasting_in.Given as goal

abbrev pub invariant-loop-left : goal.invariant-loop-left
invariant-loop-left l = all_lasting_counted l.line.world l.time l.left l.statistics ≡ all_lasting_counted l.line.world l.time l.slaves l.initial.statistics

abbrev pub decreases-loop-left : goal.decreases-loop-left
decreases-loop-left l = length l.left
