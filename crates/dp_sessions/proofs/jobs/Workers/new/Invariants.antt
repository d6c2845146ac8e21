use Rattle.std.proofs.Common.{◌≡◌, ◌≤◌, ◌-◌, All, vec_capacity, vec_len}
use Rattle.dp_sessions.specs.KeptSessions.{HasRoom}
use Rattle.dp_sessions.proofs.jobs.Workers.new.Given as goal

abbrev pub invariant-loop-alloc : goal.invariant-loop-alloc
invariant-loop-alloc g l = (vec_len l.rooms ≤ vec_len l.seats) × (vec_capacity l.rooms ≡ vec_len l.seats) × All (HasRoom l.room) l.rooms.items

abbrev pub decreases-loop-alloc : goal.decreases-loop-alloc
decreases-loop-alloc g l = vec_len l.seats - vec_len l.rooms
