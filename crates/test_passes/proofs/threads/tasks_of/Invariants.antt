use Rattle.std.proofs.Common.{◌≡◌, map, All}
use Rattle.dp_sessions.specs.Pools.{IsSeatAt}
use Rattle.test_passes.proofs.threads.tasks_of.Given as goal

abbrev pub invariant-loop-client : goal.invariant-loop-client
invariant-loop-client g l = All (IsSeatAt l.claims) l.seats.items × All (λ task. IsSeatAt l.claims task.seat) l.tasks.items × (map (λ task. task.client) l.tasks.items ≡ l.yielded)
