-- detail
-- What a fact leaves on a writer, as rows and as lines of JSON (own).
use Rattle.std.specs.Prelude.{codes, ℕ, List, [], ◌++◌, Option, Result}
use Rattle.explain_events.specs.ExplainedEntries.{explained_entry_text}
use Rattle.explain_texts.specs.declared.explain_fault.ExplainFault.{ExplainFault}
use Rattle.explain_texts.specs.declared.fact_writer.FactWriter.{FactWriter}
use Rattle.explain_texts.specs.declared.fact_writer.FactWriter.TheVariants as forms
use Rattle.explain_texts.specs.Explained.{Leaves, verdict_text}
use Rattle.explain_texts.specs.Json.{entry_front, verdict_line}
use Rattle.explain_texts.specs.Reported.{Reported, reports_entry, reports_summary, reports_verdict}

-- a text that begins so
abbrev pub LeavesFrom : List ℕ → Option (List ℕ) → Option (List ℕ) → Result (Unit {0}) ExplainFault → Type 0
LeavesFrom front old new result = (others : List ℕ) × Leaves (front ++ others) old new result

abbrev pub WritesRows : Reported → Option (List ℕ) → Option (List ℕ) → Result (Unit {0}) ExplainFault → Type 0
WritesRows (reports_entry entry) old new result = Leaves (explained_entry_text entry.context entry.after entry.place entry.event entry.outcome) old new result
WritesRows (reports_summary summary) old new result = LeavesFrom (codes "holds\n") old new result
WritesRows (reports_verdict verdict) old new result = Leaves (verdict_text verdict) old new result

-- what follows the place in the line of an entry, and the lines of a summary, are texts that are tested
abbrev pub WritesLine : Reported → Option (List ℕ) → Option (List ℕ) → Result (Unit {0}) ExplainFault → Type 0
WritesLine (reports_entry entry) old new result = LeavesFrom (entry_front entry.place) old new result
WritesLine (reports_summary summary) old new result = LeavesFrom [] old new result
WritesLine (reports_verdict verdict) old new result = Leaves (verdict_line verdict) old new result

-- the form stays, and what the writer has is written in it
abbrev pub TakesByForm : {W : Type 0} → (W → Option (List ℕ)) → FactWriter W → Reported → Result (Unit {0}) ExplainFault → FactWriter W → Type 0
TakesByForm contents (forms.Rows old) fact result (forms.Rows new) = WritesRows fact (contents old.writer) (contents new.writer) result
TakesByForm contents (forms.Json old) fact result (forms.Json new) = WritesLine fact (contents old.writer) (contents new.writer) result
TakesByForm contents old fact result new = ⊥
