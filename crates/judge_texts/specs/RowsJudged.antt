-- helper
-- What is left by the rows of a text that were read and judged (own). No public clause cites this module.
use Rattle.std.specs.Prelude.{◌≡◌, ℕ, List, Option, IfSome, Result, Ok, Err, IsUtf8}
use Rattle.std.specs.Io.KnownBytes.{Appends}
use Rattle.dp_line.specs.World.{Description}
use Rattle.dp_text.specs.Words.{lines_of}
use Rattle.dp_text.specs.Writes.{WritesPrefix}
use Rattle.dp_audit.specs.declared.fault.AuditFault.{AuditFault}
use Rattle.dp_audit.specs.Check.{checked}
use Rattle.explain_texts.specs.declared.explain_fault.ExplainFault.{ExplainFault}
use Rattle.explain_texts.specs.declared.read_fault.ReadFault.TheVariants as faults
use Rattle.explain_texts.specs.declared.rows_fault.RowsFault.{RowsFault}
use Rattle.explain_texts.specs.declared.rows_fault.RowsFault.TheVariants as rows
use Rattle.explain_texts.specs.ExplainedRows.{IsReadable}
use Rattle.judge_findings.specs.Lines.{LineJudgeView}
use Rattle.judge_texts.specs.declared.choice.JudgeChoice.{JudgeChoice}
use Rattle.judge_texts.specs.Judging.{JudgedText, judged, judged_rows}
use Rattle.judge_texts.specs.Runs.{AppendsPrefix, AppendsWhole}

-- all rows of a text were judged, up to the first wrong one, and their findings were written
pub record AreJudged (choice : JudgeChoice) (line : Description) (text : List ℕ) (verdict : Result ℕ AuditFault) (judges : LineJudgeView) (old new : Option (List ℕ)) : Type 0 where
  pub verdict_is : verdict ≡ checked line text
  pub judges_are : judges ≡ (judged_rows choice line (lines_of text)).judges
  pub findings : Appends old new (judged_rows choice line (lines_of text)).findings

-- the verdict on the text; if it ended early, a prefix of the findings was written
abbrev pub JudgesEntries : JudgeChoice → Description → List ℕ → LineJudgeView → Option (List ℕ) → Option (List ℕ) → Result (Result ℕ AuditFault) RowsFault → Type 0
JudgesEntries choice line text judges old new (Ok verdict) = AreJudged choice line text verdict judges old new
JudgesEntries choice line text judges old new (Err (rows.Explain fault)) = WritesPrefix old new (judged_rows choice line (lines_of text)).findings
JudgesEntries choice line text judges old new (Err (rows.Read faults.OutOfMemory)) = WritesPrefix old new (judged_rows choice line (lines_of text)).findings
JudgesEntries choice line text judges old new (Err (rows.Read faults.CannotRead)) = WritesPrefix old new (judged_rows choice line (lines_of text)).findings
JudgesEntries choice line text judges old new (Err (rows.Read faults.NotText)) = ⊥

-- what is written behind the findings, and the exit status
abbrev pub EndsText : ℕ → Option (List ℕ) → Option (List ℕ) → Option (List ℕ) → Result ℕ ExplainFault → Type 0
EndsText status ending old new (Ok found) = (found ≡ status) × IfSome ending (Appends old new)
EndsText status ending old new (Err fault) = IfSome ending (WritesPrefix old new)

-- the text and its exit status, or a prefix if it ended early; `NotText` only if the last row is not UTF-8
abbrev pub JudgesRows : JudgedText → List ℕ → Option (List ℕ) → Option (List ℕ) → Result ℕ RowsFault → Type 0
JudgesRows text row old new (Ok status) = (status ≡ text.status) × AppendsWhole text old new × IsReadable text.verdict row
JudgesRows text row old new (Err (rows.Explain fault)) = AppendsPrefix text old new
JudgesRows text row old new (Err (rows.Read faults.OutOfMemory)) = AppendsPrefix text old new
JudgesRows text row old new (Err (rows.Read faults.CannotRead)) = AppendsPrefix text old new
JudgesRows text row old new (Err (rows.Read faults.NotText)) = AppendsPrefix text old new × (¬ (IsUtf8 row))

-- the part of a text of the line that was read decides its judgement
abbrev pub DecidesJudged : JudgeChoice → Description → List ℕ → List ℕ → Type 0
DecidesJudged choice line read text = judged choice line text ≡ judged choice line read
