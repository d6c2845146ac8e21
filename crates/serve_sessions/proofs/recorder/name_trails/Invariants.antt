use Rattle.std.proofs.Common.{◌≡◌, ◌++◌}
use Rattle.serve_sessions.specs.Recordings.{paths_of}
use Rattle.serve_sessions.proofs.recorder.name_trails.Given as goal

abbrev pub invariant-loop-recorder : goal.invariant-loop-recorder
invariant-loop-recorder g l =
    (goal.iterator-loop-recorder g).can_next l.recorder-iterator × (goal.iterator-loop-recorder g).is_finite l.recorder-iterator
    × (l.yielded ++ l.recorder-iterator.rest.items ≡ l.fn.recorders.items)
    × (paths_of l.all.items ≡ paths_of l.yielded)
