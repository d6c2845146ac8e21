use Rattle.std.proofs.Crossing.{crosses}
use contract.Lifetimes.{Lfts}
use denote.Param.{param}
use denote.Param.Send.{IsSend, IsSync, sendable, param_send, param_sync}
use Rattle.dp_shared.proofs.Sharing.{shared_book_send}
use Rattle.dp_shared.proofs.claims.Claims.TheSendSync as claims
use Rattle.dp_shared.proofs.one_slot.OneSlot.TheSendSync as slot
use Rattle.dp_sessions.proofs.port.LineAndClaims.TheSendSync as port
use Rattle.dp_sessions.proofs.KeptServed.{all_kept_served}
use Rattle.dp_sessions.proofs.Sending.{sessions_send}
use Rattle.dp_sessions.proofs.pool.run_pool.Given.{Over}
use Rattle.dp_sessions.proofs.pool.run_pool.Goals as goal
use Rattle.dp_sessions.proofs.pool.run_pool.Lts.{arg-0-0, arg-0-1}

port_sync : (g : Over) (κs : Lfts 10) → IsSync (arg-0-0 g.row.H g.row.R g.row.W g.row.G g.H.laws g.R.laws g.W.laws g.G.laws g.H.Threads-dict g.H.Wait-dict g.R.Read-dict g.W.Write-dict g.G.Gate-dict g.R.Destruct-dict g.W.Destruct-dict κs)
port_sync g κs = search (sendable, crosses, port.the_sync, slot.the_sync, claims.the_sync, shared_book_send) depth 40 fits 100000

worker_send : (g : Over) (κs : Lfts 10) → IsSend (param 1 g.row.R) → IsSend (param 2 g.row.W)
    → IsSend (arg-0-1 g.row.H g.row.R g.row.W g.row.G g.H.laws g.R.laws g.W.laws g.G.laws g.H.Threads-dict g.H.Wait-dict g.R.Read-dict g.W.Write-dict g.G.Gate-dict g.R.Destruct-dict g.W.Destruct-dict κs)
worker_send g κs reader writer = search (sendable, crosses, sessions_send) depth 40 fits 100000

pub start_all-requires-sync-P : goal.start_all-requires-sync-P
start_all-requires-sync-P g c κs within = param_sync 0 _ (port_sync g κs)

pub start_all-requires-send-S : goal.start_all-requires-send-S
start_all-requires-send-S g c κs within = param_send 1 _ (worker_send g κs c.type_bounds.send-R c.type_bounds.send-W)

pub returns-in-Some-clause-kept : goal.returns-in-Some-clause-kept
returns-in-Some-clause-kept g c = all_kept_served _ _ _ _ c.in-Some.ensures.served
