-- promise
-- The audit texts of recorders (own).
use Rattle.std.specs.Prelude.{◌≡◌, ℕ, List, map, Option, Contains}
use Rattle.std.specs.List.{AllZip}
use Rattle.audit_files.specs.AuditPaths.{IsOfLine, in_part}
use Rattle.audit_files.specs.declared.audit_path.AuditPath.{AuditPath}
use Rattle.serve_sessions.specs.declared.recorder.Recorder.{Recorder}

-- the paths of the texts of these recorders, in their order
abbrev pub paths_of : {N T : Type 0} → List (Recorder N T) → List AuditPath
paths_of recorders = map (λ recorder. recorder.file.path) recorders

-- a line with each of these numbers has a text of its own in the folder
abbrev pub AreRecordedIn : List ℕ → List ℕ → List AuditPath → Type 0
AreRecordedIn folder numbers paths = AllZip (IsOfLine folder) numbers paths

-- a file of one of these texts
abbrev pub IsPartOfOne : List AuditPath → AuditPath → Type 0
IsPartOfOne texts path = (text : AuditPath) × (part : Option ℕ) × Contains texts text × (path ≡ in_part text part)
