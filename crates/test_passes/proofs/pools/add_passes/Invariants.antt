use Rattle.std.proofs.Common.{◌≡◌, ◌++◌, map}
use Rattle.test_passes.proofs.pools.add_passes.Given as goal

abbrev pub invariant-loop-session : goal.invariant-loop-session
invariant-loop-session g l = l.passes.items ≡ l.fn.passes.items ++ map (λ session. session.returned_pass) l.yielded
