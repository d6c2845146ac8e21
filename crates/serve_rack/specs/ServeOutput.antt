-- promise
-- A rack that is served (own).
use Rattle.std.specs.Prelude.{◌≡◌, ◌⊎◌, ℕ, ℤ, Bool, true, false, List, map, Option, Some, None, Result, Ok, Err, Contains, IsPermutation}
use Rattle.std.specs.Borrow.{Bor}
use Rattle.std.specs.List.{list_all}
use Rattle.std.specs.List.Sorted.{IsNonDecreasingBy}
use Rattle.std.specs.Io.KnownBytes.{Appends, Keeps}
use Rattle.std.specs.declared.io.ErrorKind.{ErrorKind}
use Rattle.system_errors.specs.declared.cause.Cause.{Cause}
use Rattle.system_errors.specs.declared.cause.Cause.TheVariants.{Forgotten, NotTaken}
use Rattle.dp_text.specs.Writes.{WritesPrefix}
use Rattle.dp_line.specs.World.{description_of}
use Rattle.rack_file.specs.Rack.{LineDescription, RackDescription}
use Rattle.rack_file.specs.declared.fault.RackFault.{RackFault}
use Rattle.rack_file.specs.declared.fault.RackFault.TheVariants as racks
use Rattle.audit_files.specs.AuditPaths.{IsFileIn, IsFolderOrFileIn}
use Rattle.system_errors.specs.SystemErrors.{cause_of_error}
use Rattle.audit_files.specs.FileFaults.{cause_of_break}
use Rattle.audit_files.specs.declared.audit_file.IncompleteFile.{IncompleteFile}
use Rattle.audit_files.specs.declared.audit_path.AuditPath.{AuditPath}
use Rattle.serve_faults.specs.MissingPorts.{has_ports}
use Rattle.serve_faults.specs.declared.serve_fault.OutputFault.{OutputFault}
use Rattle.serve_faults.specs.declared.serve_fault.OutputFault.TheVariants as outputs
use Rattle.serve_faults.specs.declared.serve_fault.ServeFault.{ServeFault}
use Rattle.serve_faults.specs.declared.serve_fault.ServeFault.TheVariants as faults
use Rattle.serve_rack.specs.Serving.{HasLeft, most_reads}
use Rattle.serve_rack.specs.declared.serve.Served.{Served}
use Rattle.serve_rack.specs.declared.serving.ServedRack.{ServedRack}
use Rattle.serve_sessions.specs.Ready.{ready}
use Rattle.serve_lines.specs.declared.served_line.ServedLine.{ServedLine}
use Rattle.serve_lines.specs.AuditTexts.{AreBrokenOff, AreWritten}
use Rattle.serve_lines.specs.MasterSessions.{AreInJournals, AreServedAt, MasterPlace}
use Rattle.serve_lines.specs.Listening.{ports_of}
use Rattle.serve_lines.specs.ServedLines.{line_numbers, masters_of, number_of, specs_of}

-- ---- serving

-- `ready` is written, and then the audit texts of these lines; for endless lines only `ready`
abbrev pub AreServed : Bool → List ServedLine → Option (List ℕ) → Option (List ℕ) → Type 0
AreServed true lines old new = Appends old new ready
AreServed false lines old new = (between : Option (List ℕ)) × Appends old between ready × AreWritten (specs_of lines) between new

-- .. and this number of sessions of masters was served, at one place for each of these lines and as sessions of its masters; by the journals of ordinary
-- lines, those that are kept wrote E5 and then the replies of the entries under the numbers of their passes
abbrev pub AreServedTo : Bool → List ServedLine → ℕ → Option (List ℕ) → Option (List ℕ) → Type 0
AreServedTo true lines masters old new = Appends old new ready × AreServedAt most_reads masters (masters_of lines)
AreServedTo false lines masters old new =
    (between : Option (List ℕ)) × Appends old between ready × ((texts : AreWritten (specs_of lines) between new) × AreInJournals most_reads masters (masters_of lines) texts.journals)

-- a prefix of `ready` is written, or `ready` and a part of the audit texts of these lines
abbrev pub AreServedInPart : Bool → List ServedLine → Option (List ℕ) → Option (List ℕ) → Type 0
AreServedInPart true lines old new = WritesPrefix old new ready
AreServedInPart false lines old new = WritesPrefix old new ready
    ⊎ ((between : Option (List ℕ)) × Appends old between ready × AreBrokenOff (specs_of lines) between new)

-- `ready` is written, and then the sessions of masters are served at these places; if a write fails, a prefix of `ready` is written; if memory, a
-- thread or the file that names the ports is refused, nothing
abbrev pub ServesConnections : List MasterPlace → Option (List ℕ) → Option (List ℕ) → Result ServedRack OutputFault → Type 0
ServesConnections places old new (Ok rack) = Appends old new ready × HasLeft places rack.served rack.passes.items
ServesConnections places old new (Err outputs.WriteFault) = WritesPrefix old new ready
ServesConnections places old new (Err outputs.OutOfMemory) = Keeps old new
ServesConnections places old new (Err (outputs.CannotMakePorts cause)) = Keeps old new

-- the cause of an error of the system
abbrev pub IsCauseOfError : Cause → Type 0
IsCauseOfError cause = (kind : ErrorKind) × (number : Option ℤ) × (cause ≡ cause_of_error kind number)

-- why a file lacks an entry; the file of an ordinary line did not take the whole row, and one of an endless line may also not have been created
abbrev pub IsCauseOfBreak : Bool → Cause → Type 0
IsCauseOfBreak true cause = (cause ≡ NotTaken) ⊎ (cause ≡ Forgotten) ⊎ IsCauseOfError cause
IsCauseOfBreak false cause = cause ≡ NotTaken

-- the file of a line with one of these numbers lacks an entry
abbrev pub IsIncomplete : Option (Bor (List ℕ)) → Bool → List ℕ → AuditPath → Cause → Type 0
IsIncomplete folder endless numbers path cause = IsFileIn folder numbers path × IsCauseOfBreak endless cause

-- the result of serving, by the first file that lacks an entry, and by how many sessions were served
abbrev pub serving_result : Bool → Option IncompleteFile → Option Served → Result Served ServeFault
serving_result endless (Some file) served = Err (faults.CannotWrite file.path (cause_of_break endless file.refused file.reason))
serving_result endless None (Some served) = Ok served
serving_result endless None None = Err faults.OutOfMemory

-- if the folder of audit texts, a file in it for one of these lines, or the file that names the ports cannot be made, nothing is written; if an audit
-- file lacks an entry, everything is written
abbrev pub ServesLines : Option (Bor (List ℕ)) → Bool → List ServedLine → Option (List ℕ) → Option (List ℕ) → Result Served ServeFault → Type 0
ServesLines folder endless lines old new (Ok served) = AreServedTo endless lines served.masters old new
ServesLines folder endless lines old new (Err (faults.CannotMake path cause)) = IsFolderOrFileIn folder (line_numbers lines) path × Keeps old new
ServesLines folder endless lines old new (Err (faults.CannotWrite path cause)) = IsIncomplete folder endless (line_numbers lines) path cause × AreServed endless lines old new
ServesLines folder endless lines old new (Err (faults.CannotMakePorts cause)) = Keeps old new
ServesLines folder endless lines old new (Err faults.WriteFault) = AreServedInPart endless lines old new
ServesLines folder endless lines old new (Err faults.OutOfMemory) = AreServedInPart endless lines old new
ServesLines folder endless lines old new (Err other) = ⊥

-- ---- a rack

abbrev pub rack_numbers : RackDescription → List ℕ
rack_numbers rack = map (λ line. line.line.number) rack.lines

abbrev pub described : ServedLine → LineDescription
described line = record { line = description_of line.spec; listen = Some line.listen; operator = Some line.operator }

-- these are the lines of a rack, each with its ports, in ascending order of their numbers
pub record AreLinesOf (rack : RackDescription) (lines : List ServedLine) : Type 0 where
  pub same : IsPermutation rack.lines (map described lines)
  pub ascend : IsNonDecreasingBy number_of lines

-- the lines of a rack are served, in the order of their numbers
abbrev pub IsServed : Bool → RackDescription → Option (List ℕ) → Option (List ℕ) → Type 0
IsServed endless rack old new = (lines : List ServedLine) × AreLinesOf rack lines × AreServed endless lines old new

-- .. and this number of sessions of masters was served
abbrev pub IsServedTo : Bool → RackDescription → ℕ → Option (List ℕ) → Option (List ℕ) → Type 0
IsServedTo endless rack masters old new = (lines : List ServedLine) × AreLinesOf rack lines × AreServedTo endless lines masters old new

abbrev pub IsServedInPart : Bool → RackDescription → Option (List ℕ) → Option (List ℕ) → Type 0
IsServedInPart endless rack old new = Keeps old new ⊎ ((lines : List ServedLine) × AreLinesOf rack lines × AreServedInPart endless lines old new)

-- a rack that is accepted is served. Nothing is written if a line has no port, which is a bad key, if a port of the rack cannot be listened at, or if
-- the folder of audit texts, a file in it for a line of the rack, or the file that names the ports cannot be made. If an audit file lacks an entry,
-- everything is written. If memory, a thread or a write is refused, a part is written
abbrev pub ServesRack : Option (Bor (List ℕ)) → Bool → RackDescription → Option (List ℕ) → Option (List ℕ) → Result Served ServeFault → Type 0
ServesRack folder endless rack old new (Ok served) = IsServedTo endless rack served.masters old new
ServesRack folder endless rack old new (Err (faults.Rack racks.BadKey)) = (list_all has_ports rack.lines ≡ false) × Keeps old new
ServesRack folder endless rack old new (Err (faults.CannotListen port cause)) =
    (lines : List ServedLine) × AreLinesOf rack lines × Contains (ports_of lines) port × Keeps old new
ServesRack folder endless rack old new (Err (faults.CannotMake path cause)) = IsFolderOrFileIn folder (rack_numbers rack) path × Keeps old new
ServesRack folder endless rack old new (Err (faults.CannotWrite path cause)) = IsIncomplete folder endless (rack_numbers rack) path cause × IsServed endless rack old new
ServesRack folder endless rack old new (Err (faults.CannotMakePorts cause)) = Keeps old new
ServesRack folder endless rack old new (Err faults.OutOfMemory) = IsServedInPart endless rack old new
ServesRack folder endless rack old new (Err faults.WriteFault) = IsServedInPart endless rack old new
ServesRack folder endless rack old new (Err other) = ⊥

-- a rack that is not accepted is reported, or that memory is refused, and nothing is written
abbrev pub RefusesToServe : RackFault → Option (List ℕ) → Option (List ℕ) → Result Served ServeFault → Type 0
RefusesToServe fault old new (Err (faults.Rack reported)) = (reported ≡ fault) × Keeps old new
RefusesToServe fault old new (Err faults.OutOfMemory) = Keeps old new
RefusesToServe fault old new other = ⊥

-- the rack that a text describes is served, or its fault is reported
abbrev pub Serves : Option (Bor (List ℕ)) → Bool → Result RackDescription RackFault → Option (List ℕ) → Option (List ℕ) → Result Served ServeFault → Type 0
Serves folder endless (Ok rack) old new result = ServesRack folder endless rack old new result
Serves folder endless (Err fault) old new result = RefusesToServe fault old new result
