use Rattle.std.proofs.Crossing.{crosses}
use denote.RattleType.{RattleType}
use denote.Param.Send.{IsSend, recorded_send, sendable, struct_send}
use denote.Struct.Declared.{shape}
use Rattle.dp_shared.proofs.Sharing.{pass_send, shared_book_send}
use Rattle.dp_shared.proofs.claims.Claims.TheSendSync as claims
use Rattle.dp_shared.proofs.one_slot.OneSlot.TheSendSync as slot
use Rattle.dp_sessions.proofs.port.LineAndClaims.TheSendSync as port
use Rattle.dp_shared.specs.contracts.pass.ReturnedPass as returned_pass
use Rattle.std.specs.contracts.option.Option as option
use Rattle.std.specs.contracts.snapshot.Snapshot as snapshot
use Rattle.test_passes.specs.contracts.threads.Client as client
use Rattle.test_passes.specs.contracts.threads.Ended as ended
use Rattle.test_passes.specs.contracts.threads.Served as served
use Rattle.test_passes.proofs.threads.serve_all.Goals as goal

returned_pass_send : IsSend returned_pass.the_row
returned_pass_send = search (sendable, crosses, pass_send) depth 40

note_field : IsSend (option.the_field (snapshot.the_row returned_pass.the_row)).row
note_field = search (sendable, crosses) depth 40

client_field : (R W : RattleType) → IsSend R → IsSend W → IsSend (client.the_field R W).row
client_field R W r w = struct_send (shape (client.the_type R W)) (r, (w, tt))

ended_field : (R W : RattleType) → IsSend R → IsSend W → IsSend (ended.the_field R W).row
ended_field R W r w = struct_send (shape (ended.the_type R W)) (search (sendable, crosses) depth 40, (note_field, (client_field R W r w, tt)))

served_field : (R W : RattleType) → IsSend R → IsSend W → IsSend (served.the_field R W).row
served_field R W r w = struct_send (shape (served.the_type R W)) (ended_field R W r w, (search (sendable, crosses, returned_pass_send) depth 40, tt))

served_send : (R W : RattleType) → IsSend R → IsSend W → IsSend (served.the_row R W)
served_send R W r w = search (sendable, recorded_send, served_field R W r w)

pub serve_each-requires-send-D : goal.serve_each-requires-send-D
serve_each-requires-send-D g c κs within = search (sendable, crosses, served_send) depth 40 fits 100000

pub serve_each-requires-sync-P : goal.serve_each-requires-sync-P
serve_each-requires-sync-P g c κs within = search (sendable, crosses, port.the_sync, slot.the_sync, claims.the_sync, shared_book_send) depth 40 fits 100000
