-- detail
-- Why an audit text cannot be begun, and why a file lacks an entry (own).
use Rattle.std.specs.Prelude.{◌≡◌, codes, ℕ, Bool, true, false, List, ◌++◌, Option, Some, None}
use Rattle.std.specs.Borrow.{Bor}
use Rattle.system_errors.specs.declared.cause.Cause.{Cause}
use Rattle.system_errors.specs.declared.cause.Cause.TheVariants.{Forgotten, NotTaken}
use Rattle.system_errors.specs.SystemErrors.{cause_of_error}
use Rattle.audit_trail.specs.declared.fault.TrailBreak.{TrailBreak}
use Rattle.audit_trail.specs.declared.fault.TrailBreak.TheVariants as breaks
use Rattle.audit_files.specs.declared.audit_path.AuditPath.{AuditPath}
use Rattle.audit_files.specs.declared.audit_writer.CreateFault.{CreateFault}
use Rattle.audit_files.specs.declared.file_fault.FileFault.{FileFault}
use Rattle.audit_files.specs.declared.file_fault.FileFault.TheVariants as faults
use Rattle.audit_files.specs.AuditPaths.{IsFolderOrFileIn, audit_path_text}

-- the text of a fault, without the cause
abbrev pub file_fault_text : FileFault → List ℕ
file_fault_text faults.OutOfMemory = codes "out of memory"
file_fault_text (faults.CannotMake path cause) = codes "cannot make " ++ audit_path_text path

-- the folder of audit texts cannot be made, or a file in it for one of the lines with these numbers, or memory is refused
abbrev pub IsRecordingFault : Option (Bor (List ℕ)) → List ℕ → FileFault → Type 0
IsRecordingFault folder numbers (faults.CannotMake path cause) = IsFolderOrFileIn folder numbers path
IsRecordingFault folder numbers faults.OutOfMemory = Unit {0}

-- the file at this path does not take the whole header, or memory is refused
abbrev pub IsNotBegun : AuditPath → FileFault → Type 0
IsNotBegun path (faults.CannotMake reported cause) = (reported ≡ path) × (cause ≡ NotTaken)
IsNotBegun path faults.OutOfMemory = Unit {0}

-- the file or folder at this path cannot be made, or memory is refused
abbrev pub IsFaultAt : AuditPath → FileFault → Type 0
IsFaultAt path (faults.CannotMake reported cause) = reported ≡ path
IsFaultAt path faults.OutOfMemory = Unit {0}

-- why an entry is not in its file. Only an endless line forgets entries, and only its text has further files: if one cannot be created, the cause is that of
-- the system. Otherwise the file did not take the whole row
abbrev pub cause_of_break : Bool → Option CreateFault → TrailBreak → Cause
cause_of_break true (Some fault) breaks.WriteFault = cause_of_error fault.kind fault.number
cause_of_break true None breaks.WriteFault = NotTaken
cause_of_break true refused breaks.Overtaken = Forgotten
cause_of_break false refused reason = NotTaken
