-- What a worker takes and leaves may go to another thread.
use denote.RattleType.{RattleType}
use denote.Param.Send.{IsSend, sendable}
use Rattle.std.proofs.Crossing.{crosses}
use Rattle.dp_shared.proofs.Sharing.{pass_send}
use Rattle.dp_shared.specs.contracts.pass.ReturnedPass as returned
use Rattle.dp_sessions.specs.contracts.jobs.KeptSession as kept
use Rattle.dp_sessions.specs.contracts.jobs.ServedSessions as sessions

returned_send : IsSend returned.the_row
returned_send = search (sendable, crosses, pass_send) depth 40 fits 100000

pub kept_send : (R W : RattleType) → IsSend R → IsSend W → IsSend (kept.the_row R W)
kept_send R W reader writer = search (sendable, crosses, returned_send) depth 40 fits 100000

pub sessions_send : (R W : RattleType) → IsSend R → IsSend W → IsSend (sessions.the_row R W)
sessions_send R W reader writer = search (sendable, crosses, kept_send) depth 40 fits 100000
