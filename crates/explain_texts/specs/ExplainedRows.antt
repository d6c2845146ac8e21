-- detail
-- The check and the explanation of a text that was read row by row (own).
use Rattle.std.specs.Prelude.{◌≡◌, ℕ, List, ◌++◌, ◌∷◌, [], Result, Ok, Err, IsUtf8}
use Rattle.dp_line.specs.World.{Description}
use Rattle.dp_audit.specs.declared.fault.AuditFault.{AuditFault}
use Rattle.dp_audit.specs.Check.{checked}
use Rattle.explain_texts.specs.declared.choice.Choice.{Choice}
use Rattle.explain_texts.specs.declared.read_fault.ReadFault.{ReadFault}
use Rattle.explain_texts.specs.declared.read_fault.ReadFault.TheVariants as faults
use Rattle.explain_texts.specs.declared.rows_fault.RowsFault.{RowsFault}
use Rattle.explain_texts.specs.declared.rows_fault.RowsFault.TheVariants as rows
use Rattle.explain_texts.specs.Explained.{explained, verdict_status}
use Rattle.explain_texts.specs.Reported.{Reported}
use Rattle.explain_texts.specs.Reports.{Reports, ReportsPrefix, Takes}

-- ---- what decides

-- the part of a text that was read decides its check and each of its explanations
pub record Decides (line : Description) (read text : List ℕ) : Type 0 where
  pub same_check : checked line text ≡ checked line read
  pub same_explanation : (choice : Choice) → explained line text choice ≡ explained line read choice

-- the rows behind the first wrong one change neither the check nor an explanation: a text of whole rows that is not legal decides both, whatever
-- follows it
abbrev pub DecidesAtWrongRow : Type 0
DecidesAtWrongRow =
    (line : Description) (front behind : List ℕ) (fault : AuditFault)
    → checked line (front ++ 10 ∷ []) ≡ Err fault
    → Decides line (front ++ 10 ∷ []) ((front ++ 10 ∷ []) ++ behind)

-- ---- results

-- the last row that was read is UTF-8 if the text is not legal
abbrev pub IsReadable : Result ℕ AuditFault → List ℕ → Type 0
IsReadable (Ok count) row = Unit {0}
IsReadable (Err fault) row = IsUtf8 row

-- the verdict on a text with this last row; `NotText` only if the row is not UTF-8
abbrev pub Reads : Result ℕ AuditFault → List ℕ → Result (Result ℕ AuditFault) ReadFault → Type 0
Reads verdict row (Ok found) = (found ≡ verdict) × IsReadable verdict row
Reads verdict row (Err faults.NotText) = ¬ (IsUtf8 row)
Reads verdict row (Err faults.OutOfMemory) = Unit {0}
Reads verdict row (Err faults.CannotRead) = Unit {0}

-- all facts and the exit status, or a first part of the facts if it ended early; `NotText` only if the last row is not UTF-8
abbrev pub ExplainsRows : {S : Type 0} → Takes S → Result ℕ AuditFault → List ℕ → List Reported → S → S → Result ℕ RowsFault → Type 0
ExplainsRows takes verdict row facts old new (Ok status) = (status ≡ verdict_status verdict) × Reports takes old new facts × IsReadable verdict row
ExplainsRows takes verdict row facts old new (Err (rows.Explain fault)) = ReportsPrefix takes old new facts
ExplainsRows takes verdict row facts old new (Err (rows.Read faults.OutOfMemory)) = ReportsPrefix takes old new facts
ExplainsRows takes verdict row facts old new (Err (rows.Read faults.CannotRead)) = ReportsPrefix takes old new facts
ExplainsRows takes verdict row facts old new (Err (rows.Read faults.NotText)) = ReportsPrefix takes old new facts × (¬ (IsUtf8 row))
