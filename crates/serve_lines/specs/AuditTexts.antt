-- promise
-- The audit texts of lines that are closed (own).
use Rattle.std.specs.Prelude.{◌≡◌, ℕ, List, ◌++◌, Option, Result, Ok, Err}
use Rattle.std.specs.List.{AllZip, flat_map}
use Rattle.std.specs.Io.KnownBytes.{Appends, Keeps}
use Rattle.dp_text.specs.Writes.{WritesPrefix}
use Rattle.dp_audit.specs.AuditText.{audit_text, version_of}
use Rattle.dp_line.specs.declared.description.LineSpec.{LineSpec}
use Rattle.dp_sessions.specs.declared.port.LineAndClaims.{LineAndClaims}
use Rattle.dp_shared.specs.Content.{Content, IsHistory}
use Rattle.dp_shared.specs.LineLock.{IsOf}
use Rattle.dp_shared.specs.Passes.{line_of}
use Rattle.dp_shared.specs.declared.one_slot.OneSlot.{OneSlot}
use Rattle.serve_faults.specs.declared.serve_fault.OutputFault.{OutputFault}
use Rattle.serve_faults.specs.declared.serve_fault.OutputFault.TheVariants as outputs
use Rattle.serve_lines.specs.ReturnedPasses.{AgreeWith, AllPaired, PassList}

-- the journal of a line after serving; its entries are a legal history
pub record IsJournalOf (line : LineSpec) (content : Content) : Type 0 where
  pub of_line : IsOf line content.book
  pub history : IsHistory content

abbrev pub text_of : Content → List ℕ
text_of content = audit_text (version_of content.book.opening.capacity) content.book.number content.book.entries

-- the audit text of a line is written, or a prefix of it; if it is written, these passes, which were handed back, agree with its journal
abbrev pub WritesAudit : LineSpec → PassList → Option (List ℕ) → Option (List ℕ) → Result (Unit {0}) OutputFault → Type 0
WritesAudit line passes old new (Ok done) = (content : Content) × IsJournalOf line content × Appends old new (text_of content) × AgreeWith content passes
WritesAudit line passes old new (Err outputs.WriteFault) = (content : Content) × IsJournalOf line content × WritesPrefix old new (text_of content)
WritesAudit line passes old new (Err outputs.OutOfMemory) = Keeps old new
WritesAudit line passes old new (Err (outputs.CannotMakePorts cause)) = ⊥

-- the audit texts of these lines are written, in their order
pub record AreWritten (lines : List LineSpec) (old new : Option (List ℕ)) : Type 0 where
  pub journals : List Content
  pub each : AllZip IsJournalOf lines journals
  pub written : Appends old new (flat_map text_of journals)

-- they are written, and the passes of each line, which were handed back, agree with its journal
pub record AreClosed (lines : List LineSpec) (passes : List PassList) (old new : Option (List ℕ)) : Type 0 where
  pub texts : AreWritten lines old new
  pub agree : AllPaired AgreeWith texts.journals passes

-- a prefix of the audit texts of the first of these lines is written
pub record AreBrokenOff (lines : List LineSpec) (old new : Option (List ℕ)) : Type 0 where
  pub first : List LineSpec
  pub later : List LineSpec
  pub lines_are : lines ≡ first ++ later
  pub journals : List Content
  pub each : AllZip IsJournalOf first journals
  pub written : WritesPrefix old new (flat_map text_of journals)

abbrev pub line_at : {S V P C : Type 0} → LineAndClaims (OneSlot S V LineSpec P) C → LineSpec
line_at port = line_of port.line

-- the lines are closed, and their audit texts are written, or a part of them
abbrev pub WritesAudits : List LineSpec → List PassList → Option (List ℕ) → Option (List ℕ) → Result (Unit {0}) OutputFault → Type 0
WritesAudits lines passes old new (Ok done) = AreClosed lines passes old new
WritesAudits lines passes old new (Err (outputs.CannotMakePorts cause)) = ⊥
WritesAudits lines passes old new (Err fault) = AreBrokenOff lines old new
