use Rattle.std.proofs.Common.{◌≡◌, ◌++◌, IfSome}
use Rattle.serve_sessions.specs.Recordings.{IsPartOfOne, paths_of}
use Rattle.serve_sessions.proofs.recorder.first_incomplete.Given as goal

abbrev pub invariant-loop-recorder : goal.invariant-loop-recorder
invariant-loop-recorder g l =
    (goal.iterator-loop-recorder g).can_next l.recorder-iterator × (goal.iterator-loop-recorder g).is_finite l.recorder-iterator
    × (l.yielded ++ l.recorder-iterator.rest.items ≡ l.fn.recorders.items)
    × IfSome l.first (λ file. IsPartOfOne (paths_of l.yielded) file.path)
