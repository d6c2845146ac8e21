use Rattle.std.proofs.Common.{◌≡◌, length}
use Rattle.explain_events.specs.ReleaseChanges.{changes_noted}
use Rattle.explain_events.proofs.releases.note_changes.Given as goal

abbrev pub invariant-loop-left : goal.invariant-loop-left
invariant-loop-left l =
    changes_noted l.taken.before.now.world l.taken.after.now.world l.taken.place l.taken.event.now l.left l.releases
    ≡ changes_noted l.taken.before.now.world l.taken.after.now.world l.taken.place l.taken.event.now l.addresses l.initial.releases

abbrev pub decreases-loop-left : goal.decreases-loop-left
decreases-loop-left l = length l.left
