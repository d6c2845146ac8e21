-- detail
-- What a capture leaves on its writer, and how it ends (own).
use Rattle.std.specs.Prelude.{◌≡◌, ℕ, ◌+◌, List, Option, Result, Ok, Err, IsUtf8}
use Rattle.std.specs.Io.KnownBytes.{Appends}
use Rattle.rack_file.specs.Rack.{RackDescription}
use Rattle.rack_file.specs.declared.fault.RackFault.{RackFault}
use Rattle.dp_line.specs.declared.event.Event.{Event}
use Rattle.dp_line.specs.World.{Description, World}
use Rattle.dp_text.specs.Writes.{WritesPrefix}
use Rattle.dp_audit.specs.declared.fault.AuditFault.{AuditFault}
use Rattle.dp_audit.specs.declared.fault.AuditFault.TheVariants.{BadLine, NotThePolicy}
use Rattle.dp_audit.specs.Check.{Judged, bad, not_the_policy, right, checked}
use Rattle.capture_texts.specs.Blocks.{Block, capture_octets}
use Rattle.explain_texts.specs.Explained.{verdict_status}
use Rattle.explain_texts.specs.ExplainedRows.{IsReadable}
use Rattle.explain_texts.specs.Followed.{FollowerView, following}
use Rattle.explain_texts.specs.Known.{KnownView, known_after}
use Rattle.explain_texts.specs.TextRows.{TextRead, octets_read}
use Rattle.rack_script.specs.declared.run_fault.RunFault.{RunFault}
use Rattle.rack_script.specs.declared.run_fault.RunFault.TheVariants as runs
use Rattle.rack_script.specs.Checks.{checked_on}
use Rattle.rack_script.specs.Runs.{RefusesRack}
use Rattle.capture_texts.specs.declared.row_fault.Cut.{Cut}
use Rattle.capture_texts.specs.declared.row_fault.Cut.TheVariants as cuts
use Rattle.capture_texts.specs.declared.row_fault.RowFault.{RowFault}
use Rattle.capture_texts.specs.declared.row_fault.RowFault.TheVariants as rows
use Rattle.capture_texts.specs.Captured.{captured_on, captured_text, entry_packets}

abbrev pub run_fault_of_cut : Cut → RunFault
run_fault_of_cut cuts.OutOfMemory = runs.OutOfMemory
run_fault_of_cut cuts.WriteFault = runs.WriteFault

-- the packets are written, or a prefix of them if the call ended early
abbrev pub LeavesPackets : List Block → Option (List ℕ) → Option (List ℕ) → Result (Unit {0}) Cut → Type 0
LeavesPackets packets old new (Ok done) = Appends old new (capture_octets packets)
LeavesPackets packets old new (Err cut) = WritesPrefix old new (capture_octets packets)

-- a right row is taken, and the line has taken it too; or its packets are cut
abbrev pub TakesRight : ℕ → Event → KnownView → FollowerView → World → Option (List ℕ) → Option (List ℕ) → Result (Unit {0}) RowFault → Type 0
TakesRight number event known after world old new (Ok done) =
    (after ≡ following (known_after known event)) × (world ≡ after.known.context.world) × Appends old new (capture_octets (entry_packets number known.context event))
TakesRight number event known after world old new (Err (rows.Cut cut)) = WritesPrefix old new (capture_octets (entry_packets number known.context event))
TakesRight number event known after world old new (Err (rows.Wrong fault)) = ⊥

-- a row that is judged so, behind what is known: of a wrong one the fault is returned, and nothing is written
abbrev pub TakesEntry : ℕ → Judged → KnownView → FollowerView → World → Option (List ℕ) → Option (List ℕ) → Result (Unit {0}) RowFault → Type 0
TakesEntry number bad known after world old new result = (result ≡ Err (rows.Wrong (BadLine (known.context.world.count + 2)))) × (new ≡ old)
TakesEntry number not_the_policy known after world old new result = (result ≡ Err (rows.Wrong (NotThePolicy (known.context.world.count + 2)))) × (new ≡ old)
TakesEntry number (right event) known after world old new result = TakesRight number event known after world old new result

-- the packets of a text on a line are written, and the verdict is that of its check; or a prefix of them is written
abbrev pub CapturesText : ℕ → Description → List ℕ → Option (List ℕ) → Option (List ℕ) → Result (Result ℕ AuditFault) RunFault → Type 0
CapturesText number line text old new (Ok verdict) = (verdict ≡ checked line text) × Appends old new (capture_octets (captured_text number line text))
CapturesText number line text old new (Err runs.OutOfMemory) = WritesPrefix old new (capture_octets (captured_text number line text))
CapturesText number line text old new (Err runs.WriteFault) = WritesPrefix old new (capture_octets (captured_text number line text))
CapturesText number line text old new (Err runs.CannotRead) = WritesPrefix old new (capture_octets (captured_text number line text))
CapturesText number line text old new (Err runs.NotText) = ⊥
CapturesText number line text old new (Err (runs.Script row)) = ⊥
CapturesText number line text old new (Err (runs.Rack fault)) = ⊥

-- the exit status of a text with this verdict, if its last row is UTF-8 or the text is legal
abbrev pub Ends : Result ℕ AuditFault → List ℕ → Result ℕ RunFault → Type 0
Ends verdict row (Ok status) = (status ≡ verdict_status verdict) × IsReadable verdict row
Ends verdict row (Err runs.NotText) = ¬ (IsUtf8 row)
Ends verdict row (Err runs.OutOfMemory) = ⊥
Ends verdict row (Err runs.WriteFault) = ⊥
Ends verdict row (Err runs.CannotRead) = ⊥
Ends verdict row (Err (runs.Script line)) = ⊥
Ends verdict row (Err (runs.Rack fault)) = ⊥

-- at the end the writer has all octets, and the last row that was read is UTF-8 if the text is not legal; or a prefix, if memory ran out, a read or a
-- write failed, or the row is not UTF-8
abbrev pub WritesCapture : Result ℕ AuditFault → List ℕ → List ℕ → Option (List ℕ) → Option (List ℕ) → Result ℕ RunFault → Type 0
WritesCapture verdict row octets old new (Ok status) = (status ≡ verdict_status verdict) × Appends old new octets × IsReadable verdict row
WritesCapture verdict row octets old new (Err runs.WriteFault) = WritesPrefix old new octets
WritesCapture verdict row octets old new (Err runs.OutOfMemory) = WritesPrefix old new octets
WritesCapture verdict row octets old new (Err runs.CannotRead) = WritesPrefix old new octets
WritesCapture verdict row octets old new (Err runs.NotText) = WritesPrefix old new octets × (¬ (IsUtf8 row))
WritesCapture verdict row octets old new (Err (runs.Script line)) = ⊥
WritesCapture verdict row octets old new (Err (runs.Rack fault)) = ⊥

-- at the end the writer has the whole capture of the text, as far as it was read, and the last row that was read is UTF-8 if the text is not legal;
-- or a prefix, if memory ran out, a read or a write failed, or the row is not UTF-8. If the rack is refused, nothing is written
abbrev pub RunsCapture : Result RackDescription RackFault → TextRead → Option (List ℕ) → Option (List ℕ) → Result ℕ RunFault → Type 0
RunsCapture (Ok rack) text old new result =
    WritesCapture (checked_on rack (octets_read text)) text.row (capture_octets (captured_on rack (octets_read text))) old new result
RunsCapture (Err fault) text old new result = RefusesRack fault old new result

-- ---- what decides

-- the part of an audit text that was read decides its check and its capture on a rack
pub record DecidesOnRack (rack : RackDescription) (read text : List ℕ) : Type 0 where
  pub same_check : checked_on rack text ≡ checked_on rack read
  pub same_capture : captured_on rack text ≡ captured_on rack read

-- on the rack that a text describes, if it describes one
abbrev pub DecidesOn : Result RackDescription RackFault → List ℕ → List ℕ → Type 0
DecidesOn (Ok rack) read text = DecidesOnRack rack read text
DecidesOn (Err fault) read text = Unit {0}

-- on a line, whose interface has this number
pub record Decides (number : ℕ) (line : Description) (read text : List ℕ) : Type 0 where
  pub same_check : checked line text ≡ checked line read
  pub same_capture : captured_text number line text ≡ captured_text number line read
