-- detail
-- The text of the entries among the rows of an endless text (own).
use Rattle.std.specs.Prelude.{codes, ℕ, ◌==◌, if◌then◌else◌, List, [], ◌∷◌, ◌++◌, length, Option, Some, None, Result, Ok, Err}
use Rattle.dp_text.specs.Words.{lines_of}
use Rattle.dp_audit.specs.declared.fault.AuditFault.{AuditFault}
use Rattle.dp_audit.specs.declared.fault.AuditFault.TheVariants as faults
use Rattle.dp_audit.specs.AuditText.{line_text}
use Rattle.audit_parts.specs.Parts.{PartsView, Taken, row_taken}

-- a row that no line ever gives, since its place is 0
abbrev pub wrong_row : List ℕ
wrong_row = line_text (codes "0 halt | none | done")

-- what is given of a row that the check of the parts takes so, and the check behind it: the row of an entry as it is, and nothing of a row of a head.
-- A wrong row ends the check: a badly formed one is given as it is, any other is replaced, so that a check of what is given refuses it for the same
-- reason
abbrev pub given_by : List ℕ → Result Taken AuditFault → List ℕ × Option PartsView
given_by row (Ok (after, Some event)) = (line_text row, Some after)
given_by row (Ok (after, None)) = ([], Some after)
given_by row (Err (faults.BadLine number)) = (line_text row, None)
given_by row (Err (faults.NotThePolicy number)) = (wrong_row, None)
given_by row (Err faults.OutOfMemory) = (line_text row, None)

-- what is given of a row; all of it if no parts are checked
abbrev pub row_given : Option PartsView → List ℕ → List ℕ × Option PartsView
row_given None row = (line_text row, None)
row_given (Some view) row = given_by row (row_taken view row)

-- what is given behind the text: the beginning of a row if the text ends within a head
abbrev pub end_given : Option PartsView → List ℕ
end_given None = []
end_given (Some view) = if length view.awaited == 0 then [] else codes "0"

-- the text of the entries of these rows, of which the last has no LF
abbrev pub rows_given : Option PartsView → List (List ℕ) → List ℕ
rows_given check [] = []
rows_given check (last ∷ []) = last ++ end_given check
rows_given check (row ∷ next ∷ rows) = (row_given check row).0 ++ rows_given (row_given check row).1 (next ∷ rows)

-- the text of the entries of a text that goes on behind such a check
abbrev pub entries_given : Option PartsView → List ℕ → List ℕ
entries_given check text = rows_given check (lines_of text)
