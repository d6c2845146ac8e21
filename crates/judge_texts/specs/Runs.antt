-- detail
-- What a judgement of an audit text on a rack leaves on its writer, and how it ends (own).
use Rattle.std.specs.Prelude.{◌≡◌, ℕ, List, Option, IfSome, Result, Ok, Err, IsUtf8}
use Rattle.std.specs.Io.KnownBytes.{Appends}
use Rattle.dp_text.specs.Writes.{WritesPrefix}
use Rattle.rack_file.specs.declared.fault.RackFault.{RackFault}
use Rattle.rack_file.specs.Rack.{RackDescription}
use Rattle.explain_texts.specs.ExplainedRows.{IsReadable}
use Rattle.explain_texts.specs.TextRows.{TextRead, octets_read}
use Rattle.rack_script.specs.declared.run_fault.RunFault.{RunFault}
use Rattle.rack_script.specs.declared.run_fault.RunFault.TheVariants as runs
use Rattle.rack_script.specs.Runs.{RefusesRack}
use Rattle.judge_texts.specs.declared.choice.JudgeChoice.{JudgeChoice}
use Rattle.judge_texts.specs.Judging.{JudgedText, judged_on}

-- the whole text was written, or a prefix of it; nothing is said of a text that is not defined
abbrev pub AppendsWhole : JudgedText → Option (List ℕ) → Option (List ℕ) → Type 0
AppendsWhole judged old new = IfSome judged.written (Appends old new)

abbrev pub AppendsPrefix : JudgedText → Option (List ℕ) → Option (List ℕ) → Type 0
AppendsPrefix judged old new = IfSome judged.written (WritesPrefix old new)

-- at the end the writer has the whole text, and the last row that was read is UTF-8 if the text is not legal; or a prefix, if memory ran out, a read
-- or a write failed, or the row is not UTF-8
abbrev pub Judges : JudgedText → List ℕ → Option (List ℕ) → Option (List ℕ) → Result ℕ RunFault → Type 0
Judges judged row old new (Ok status) = (status ≡ judged.status) × AppendsWhole judged old new × IsReadable judged.verdict row
Judges judged row old new (Err runs.WriteFault) = AppendsPrefix judged old new
Judges judged row old new (Err runs.OutOfMemory) = AppendsPrefix judged old new
Judges judged row old new (Err runs.CannotRead) = AppendsPrefix judged old new
Judges judged row old new (Err runs.NotText) = AppendsPrefix judged old new × (¬ (IsUtf8 row))
Judges judged row old new (Err (runs.Script line)) = ⊥
Judges judged row old new (Err (runs.Rack fault)) = ⊥

-- the judgement of an audit text, as far as it was read, on the rack that a text describes, or the fault of that text
abbrev pub RunsJudge : Result RackDescription RackFault → TextRead → JudgeChoice → Option (List ℕ) → Option (List ℕ) → Result ℕ RunFault → Type 0
RunsJudge (Ok rack) text choice old new result = Judges (judged_on choice rack (octets_read text)) text.row old new result
RunsJudge (Err fault) text choice old new result = RefusesRack fault old new result

-- the part of an audit text that was read decides its judgement, on the rack that a text describes, if it describes one
abbrev pub DecidesJudgement : Result RackDescription RackFault → JudgeChoice → List ℕ → List ℕ → Type 0
DecidesJudgement (Ok rack) choice read text = judged_on choice rack text ≡ judged_on choice rack read
DecidesJudgement (Err fault) choice read text = Unit {0}
