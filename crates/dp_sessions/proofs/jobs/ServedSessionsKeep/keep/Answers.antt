use Rattle.std.proofs.Common.{arith}
use Rattle.dp_sessions.proofs.KeepingSessions.{no_room, none_kept}
use Rattle.dp_sessions.proofs.jobs.ServedSessionsKeep.keep.Goals as goal

pub returns-in_default-clause-kept : goal.returns-in_default-clause-kept
returns-in_default-clause-kept g c = rw c.in_default.is (none_kept c.args.room c.args.self.now.kept.items c.requires.few)

pub returns-else-len-room-clause-kept : goal.returns-else-len-room-clause-kept
returns-else-len-room-clause-kept g c = no_room c.args.room c.args.self.now.kept.items _ c.requires.few (omega arith)
