use Rattle.std.proofs.Common.{◌≡◌, length}
use Rattle.explain_texts.specs.Statistics.{changes_counted}
use Rattle.explain_texts.proofs.count_holds.count_changes.Given as goal

abbrev pub invariant-loop-left : goal.invariant-loop-left
invariant-loop-left l =
    changes_counted l.passed.before.now.world l.passed.after.now.world l.passed.time l.passed.event.now l.left l.statistics
    ≡ changes_counted l.passed.before.now.world l.passed.after.now.world l.passed.time l.passed.event.now l.slaves l.initial.statistics

abbrev pub decreases-loop-left : goal.decreases-loop-left
decreases-loop-left l = length l.left
