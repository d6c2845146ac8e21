-- detail
-- The explanation of an audit text on a rack (own).
use Rattle.std.specs.Prelude.{◌≡◌, ℕ, List, [], ◌∷◌, Option, Some, None, Result, Ok, Err, IsUtf8}
use Rattle.rack_file.specs.Rack.{LineDescription, RackDescription}
use Rattle.rack_file.specs.declared.fault.RackFault.{RackFault}
use Rattle.dp_text.specs.Words.{lines_of}
use Rattle.dp_audit.specs.declared.fault.AuditFault.{AuditFault}
use Rattle.dp_audit.specs.declared.fault.AuditFault.TheVariants as faults
use Rattle.explain_texts.specs.declared.choice.Choice.{Choice}
use Rattle.explain_texts.specs.ExplainedRows.{IsReadable}
use Rattle.explain_texts.specs.TextRows.{TextRead, octets_read}
use Rattle.explain_texts.specs.Explained.{explained, verdict_status}
use Rattle.explain_texts.specs.Reported.{Reported, reports_verdict}
use Rattle.explain_texts.specs.Reports.{Reports, ReportsPrefix, Takes}
use Rattle.rack_script.specs.declared.run_fault.RunFault.{RunFault}
use Rattle.rack_script.specs.declared.run_fault.RunFault.TheVariants as runs
use Rattle.rack_script.specs.Checks.{checked_on, line_named}

-- an audit text is explained on the line that it names; if it names none, the verdict is that its first line is bad
abbrev pub explained_by_line : Option LineDescription → List ℕ → Choice → List Reported
explained_by_line None text choice = reports_verdict (Err (faults.BadLine 1)) ∷ []
explained_by_line (Some line) text choice = explained line.line text choice

abbrev pub explained_on : RackDescription → List ℕ → Choice → List Reported
explained_on rack text choice = explained_by_line (line_named rack.lines (lines_of text)) text choice

-- at the end the receiver has all facts, and the last row that was read is UTF-8 if the text is not legal; or a first part of them, if memory ran
-- out, a read failed, the receiver failed, or the row is not UTF-8
abbrev pub Explains : {S : Type 0} → Takes S → Result ℕ AuditFault → List ℕ → List Reported → S → S → Result ℕ RunFault → Type 0
Explains takes verdict row facts old new (Ok status) = (status ≡ verdict_status verdict) × Reports takes old new facts × IsReadable verdict row
Explains takes verdict row facts old new (Err runs.WriteFault) = ReportsPrefix takes old new facts
Explains takes verdict row facts old new (Err runs.OutOfMemory) = ReportsPrefix takes old new facts
Explains takes verdict row facts old new (Err runs.CannotRead) = ReportsPrefix takes old new facts
Explains takes verdict row facts old new (Err runs.NotText) = ReportsPrefix takes old new facts × (¬ (IsUtf8 row))
Explains takes verdict row facts old new (Err (runs.Script line)) = ⊥
Explains takes verdict row facts old new (Err (runs.Rack fault)) = ⊥

-- at the end the receiver has the verdict, or a first part of it; it has nothing if the verdict is that memory ran out
abbrev pub ReportsVerdict : {S : Type 0} → Takes S → Result ℕ AuditFault → S → S → Result ℕ RunFault → Type 0
ReportsVerdict takes verdict old new (Ok status) = (status ≡ verdict_status verdict) × Reports takes old new (reports_verdict verdict ∷ [])
ReportsVerdict takes verdict old new (Err runs.WriteFault) = ReportsPrefix takes old new (reports_verdict verdict ∷ [])
ReportsVerdict takes verdict old new (Err runs.OutOfMemory) = ReportsPrefix takes old new (reports_verdict verdict ∷ [])
ReportsVerdict takes verdict old new (Err runs.CannotRead) = ⊥
ReportsVerdict takes verdict old new (Err runs.NotText) = ⊥
ReportsVerdict takes verdict old new (Err (runs.Script line)) = ⊥
ReportsVerdict takes verdict old new (Err (runs.Rack fault)) = ⊥

-- if a rack isn't accepted, its fault is reported, or that memory ran out, and the receiver stays as it is
abbrev pub RefusesToExplain : {S : Type 0} → RackFault → S → S → Result ℕ RunFault → Type 0
RefusesToExplain fault old new (Err (runs.Rack reported)) = (reported ≡ fault) × (new ≡ old)
RefusesToExplain fault old new (Err runs.OutOfMemory) = new ≡ old
RefusesToExplain fault old new other = ⊥

-- the explanation of an audit text, as far as it was read, on the rack that a text describes, or the fault of that text
abbrev pub RunsExplain : {S : Type 0} → Takes S → Result RackDescription RackFault → TextRead → Choice → S → S → Result ℕ RunFault → Type 0
RunsExplain takes (Ok rack) text choice old new result = Explains takes (checked_on rack (octets_read text)) text.row (explained_on rack (octets_read text) choice) old new result
RunsExplain takes (Err fault) text choice old new result = RefusesToExplain fault old new result

-- ---- what decides

-- the part of an audit text that was read decides its check and each of its explanations on a rack
pub record DecidesOnRack (rack : RackDescription) (read text : List ℕ) : Type 0 where
  pub same_check : checked_on rack text ≡ checked_on rack read
  pub same_explanation : (choice : Choice) → explained_on rack text choice ≡ explained_on rack read choice

-- on the rack that a text describes, if it describes one
abbrev pub DecidesOn : Result RackDescription RackFault → List ℕ → List ℕ → Type 0
DecidesOn (Ok rack) read text = DecidesOnRack rack read text
DecidesOn (Err fault) read text = Unit {0}
