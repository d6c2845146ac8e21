use Rattle.std.proofs.Common.{vec_len}
use Rattle.dp_sessions.proofs.pool.+start_and_join.Given as goal

abbrev pub decreases-start_and_join : goal.decreases-start_and_join
decreases-start_and_join g l = vec_len l.seats
