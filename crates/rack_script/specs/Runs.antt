-- detail
-- What a run leaves on its writer, and how it ends (own).
use Rattle.std.specs.Prelude.{◌≡◌, ℕ, List, Option, Some, None, Result, Ok, Err, IsUtf8}
use Rattle.std.specs.Io.KnownBytes.{Appends, Keeps}
use Rattle.dp_text.specs.Writes.{WritesPrefix}
use Rattle.rack_file.specs.declared.fault.RackFault.{RackFault}
use Rattle.rack_file.specs.Rack.{RackDescription}
use Rattle.rack_script.specs.declared.run_fault.RunFault.{RunFault}
use Rattle.rack_script.specs.declared.run_fault.RunFault.TheVariants as runs
use Rattle.embedded_rack.specs.declared.obey_fault.ObeyFault.{ObeyFault}
use Rattle.embedded_rack.specs.declared.obey_fault.ObeyFault.TheVariants as stops
use Rattle.rack_script.specs.ScriptText.{ScriptRack, Obeyed, Played, script_text}
use Rattle.dp_audit.specs.declared.fault.AuditFault.{AuditFault}
use Rattle.explain_texts.specs.Explained.{verdict_text, verdict_status}
use Rattle.explain_texts.specs.ExplainedRows.{IsReadable}
use Rattle.explain_texts.specs.TextRows.{TextRead, octets_read}
use Rattle.rack_script.specs.Checks.{checked_on}

-- a command to a rack: at the end the rack is as the command leaves it; the writer is as for a command to a line
abbrev pub Obeys : Option Obeyed → ScriptRack → Option (List ℕ) → Option (List ℕ) → Result (Unit {0}) ObeyFault → Type 0
Obeys (Some obeyed) script_rack old new (Ok done) = (script_rack ≡ obeyed.script_rack) × Appends old new obeyed.text
Obeys (Some obeyed) script_rack old new (Err stops.WriteFault) = WritesPrefix old new obeyed.text
Obeys (Some obeyed) script_rack old new (Err stops.NoCommand) = ⊥
Obeys None script_rack old new (Err stops.NoCommand) = Keeps old new
Obeys None script_rack old new other = ⊥

-- at the end of a run the writer has the whole text; if a line is no command, the text of the lines before it; otherwise a prefix
abbrev pub Plays : Played → Option (List ℕ) → Option (List ℕ) → Result (Unit {0}) RunFault → Type 0
Plays played old new (Ok done) = (played.fault ≡ None) × Appends old new played.text
Plays played old new (Err (runs.Script line)) = (played.fault ≡ Some line) × Appends old new played.text
Plays played old new (Err runs.OutOfMemory) = WritesPrefix old new played.text
Plays played old new (Err runs.WriteFault) = WritesPrefix old new played.text
Plays played old new (Err (runs.Rack fault)) = ⊥
Plays played old new (Err runs.CannotRead) = ⊥
Plays played old new (Err runs.NotText) = ⊥

-- if a rack isn't accepted, its fault is reported, or that memory ran out, and nothing is written
abbrev pub RefusesRack : {T : Type 0} → RackFault → Option (List ℕ) → Option (List ℕ) → Result T RunFault → Type 0
RefusesRack fault old new (Err (runs.Rack reported)) = (reported ≡ fault) × Keeps old new
RefusesRack fault old new (Err runs.OutOfMemory) = Keeps old new
RefusesRack fault old new other = ⊥

-- the run of a script on the rack that a text describes, or the fault of that text
abbrev pub RunsText : Result RackDescription RackFault → List ℕ → Option (List ℕ) → Option (List ℕ) → Result (Unit {0}) RunFault → Type 0
RunsText (Ok rack) script old new result = Plays (script_text rack script) old new result
RunsText (Err fault) script old new result = RefusesRack fault old new result

-- at the end the writer has the whole text of a verdict, a prefix of it if a write failed, and nothing if memory ran out
abbrev pub ReportsText : List ℕ → Result ℕ AuditFault → Option (List ℕ) → Option (List ℕ) → Result ℕ RunFault → Type 0
ReportsText text verdict old new (Ok status) = (status ≡ verdict_status verdict) × Appends old new text
ReportsText text verdict old new (Err runs.WriteFault) = WritesPrefix old new text
ReportsText text verdict old new (Err runs.OutOfMemory) = Keeps old new
ReportsText text verdict old new (Err (runs.Script line)) = ⊥
ReportsText text verdict old new (Err (runs.Rack fault)) = ⊥
ReportsText text verdict old new (Err runs.CannotRead) = ⊥
ReportsText text verdict old new (Err runs.NotText) = ⊥

-- the verdict of a check
abbrev pub Reports : Result ℕ AuditFault → Option (List ℕ) → Option (List ℕ) → Result ℕ RunFault → Type 0
Reports verdict old new result = ReportsText (verdict_text verdict) verdict old new result

-- at the end of a check the writer has the whole verdict, and the last row that was read is UTF-8 if the text is not legal; nothing is written if a
-- read failed, or the row is not UTF-8
abbrev pub Checks : Result ℕ AuditFault → List ℕ → Option (List ℕ) → Option (List ℕ) → Result ℕ RunFault → Type 0
Checks verdict row old new (Ok status) = (status ≡ verdict_status verdict) × Appends old new (verdict_text verdict) × IsReadable verdict row
Checks verdict row old new (Err runs.WriteFault) = WritesPrefix old new (verdict_text verdict)
Checks verdict row old new (Err runs.OutOfMemory) = Keeps old new
Checks verdict row old new (Err runs.CannotRead) = Keeps old new
Checks verdict row old new (Err runs.NotText) = Keeps old new × (¬ (IsUtf8 row))
Checks verdict row old new (Err (runs.Script line)) = ⊥
Checks verdict row old new (Err (runs.Rack fault)) = ⊥

-- the check of an audit text, as far as it was read, on the rack that a text describes, or the fault of that text
abbrev pub RunsCheck : Result RackDescription RackFault → TextRead → Option (List ℕ) → Option (List ℕ) → Result ℕ RunFault → Type 0
RunsCheck (Ok rack) text old new result = Checks (checked_on rack (octets_read text)) text.row old new result
RunsCheck (Err fault) text old new result = RefusesRack fault old new result
