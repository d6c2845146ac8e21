use Rattle.std.proofs.Common.{◌≡◌, map}
use Rattle.std.specs.List.{filter_map}
use Rattle.test_passes.proofs.threads.parted.Given as goal

abbrev pub invariant-loop-one : goal.invariant-loop-one
invariant-loop-one g l = (l.ended.items ≡ map (λ one. one.ended) l.yielded) × (l.passes.items ≡ filter_map (λ one. one.returned_pass) l.yielded)
