use Rattle.std.proofs.Common.{◌≡◌, map}
use Rattle.std.specs.List.{flat_map}
use Rattle.test_passes.proofs.pools.passes_of.Given as goal

abbrev pub invariant-loop-worker : goal.invariant-loop-worker
invariant-loop-worker g l = l.passes.items ≡ flat_map (λ worker. map (λ session. session.returned_pass) worker.kept.items) l.yielded
