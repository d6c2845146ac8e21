use Rattle.std.proofs.Common.{◌≡◌, ◌-◌, ◌^◌, min, sum_by, take}
use Rattle.dp_sessions.proofs.jobs.count_served.Given as goal

abbrev pub invariant-loop-worker : goal.invariant-loop-worker
invariant-loop-worker g l = l.count ≡ min (sum_by (λ worker. worker.served) (take l.worker-index l.workers)) (2 ^ 32 - 1)
