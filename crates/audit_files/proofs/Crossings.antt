-- The writer of an audit text may be sent to another thread.
use denote.RattleType.{RattleType}
use denote.Ref.{NamedLft}
use denote.Param.Send.{IsSend, IsSync, recorded_send, sendable, struct_send}
use denote.Struct.Declared.{shape}
use Rattle.std.proofs.Crossing.{crosses}
use Rattle.std.specs.declared.io.traits.Write.{Ghosts}
use Rattle.serve_log.proofs.notes.Notes.TheSendSync as notes
use Rattle.audit_files.proofs.audit_writer.CreateFault.TheSendSync as fault
use Rattle.audit_files.proofs.audit_writer.Part.TheSendSync as part
use Rattle.audit_files.proofs.line_times.LineTimes.TheSendSync as times
use Rattle.audit_files.proofs.old_parts.OldParts.TheSendSync as old_parts
use Rattle.audit_files.proofs.written_bytes.WrittenBytes.TheSendSync as bytes
use Rattle.audit_files.specs.contracts.audit_writer.AuditWriter as writer
use Rattle.audit_files.specs.contracts.part_file.PartFile as file

file_field : (W : RattleType) (g : Ghosts W.Denot) → IsSend W → IsSend (file.the_field W g).row
file_field W g sent = struct_send (shape (file.the_type W g)) (sent, (bytes.the_send, (search sendable, tt)))

pub file_send : (W : RattleType) (g : Ghosts W.Denot) → IsSend W → IsSend (file.the_row W g)
file_send W g sent = search (sendable, recorded_send, file_field W g sent)

writer_field : (H : RattleType) → IsSync H → (a s : NamedLft) → IsSend (writer.the_field a s H).row
writer_field H shared a s = struct_send (shape (writer.the_type a s H)) (
  search (sendable, crosses, shared) depth 20,
  (
    search (sendable, crosses, notes.the_sync s H) depth 40 fits 100000,
    (
      search (sendable, crosses),
      (
        search (sendable, crosses),
        (
          search (sendable, crosses) depth 20,
          (
            search (sendable, crosses, part.the_send) depth 20,
            (search (sendable, crosses, file_send) depth 40 fits 100000, (bytes.the_send, (search (sendable, crosses, fault.the_send) depth 20, (search (sendable, crosses, old_parts.the_sync s H) depth 60 fits 100000, (search (sendable, crosses) depth 20, (search (sendable, crosses, times.the_sync) depth 60 fits 100000, tt)))))),
          ),
        ),
      ),
    ),
  ),
)

pub writer_send : (H : RattleType) → IsSync H → (a s : NamedLft) → IsSend (writer.the_row a s H)
writer_send H shared a s = search (sendable, recorded_send, writer_field H shared a s)
