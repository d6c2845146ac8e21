-- promise
-- The result of an operator's session, in terms of the entries of the line's journal (own).
use Rattle.std.specs.Prelude.{◌≡◌, ◌⊎◌, ℕ, ◌+◌, ◌≤◌, List, [], ◌∷◌, ◌++◌, length, Option, Some, None, Result, Ok, Err}
use Rattle.std.specs.List.{concat}
use Rattle.std.specs.Io.KnownBytes.{Appends, Consumes, IsAtEnd}
use Rattle.arrayvec.specs.ArrayVec.{ArrayVec}
use Rattle.dp_slave.specs.declared.view.SlaveView.{SlaveView}
use Rattle.dp_line.specs.declared.event.Event.{Event}
use Rattle.dp_line.specs.declared.event.Event.TheVariants.{Operator}
use Rattle.dp_line.specs.declared.event.Outcome.{Outcome}
use Rattle.dp_line.specs.declared.event.Outcome.TheVariants.{Refused}
use Rattle.dp_line.specs.declared.fault.OperatorFault.{OperatorFault}
use Rattle.dp_audit.specs.declared.entry.Entry.{Entry}
use Rattle.dp_shared.specs.Content.{Content}
use Rattle.dp_shared.specs.LineLock.{answer_in, first_entries, world_after}
use Rattle.dp_shared.specs.declared.line_view.Question.{Question}
use Rattle.dp_shared.specs.declared.line_view.Answer.{Answer}
use Rattle.dp_text.specs.declared.op_line.OpLine.{OpLine}
use Rattle.dp_text.specs.declared.op_line.OpLine.TheVariants as asked
use Rattle.dp_text.specs.Texts.{outcome_line, owned_text, show_text, stepped_text}
use Rattle.rack_devices.specs.declared.driven_slave.DrivenSlave.{DrivenSlave}
use Rattle.rack_devices.specs.DrivenSlaves.{next_input}
use Rattle.dp_text.specs.declared.operator_line.LineFault.{LineFault}
use Rattle.dp_sessions.specs.declared.session_end.SessionEnd.{SessionEnd}
use Rattle.dp_sessions.specs.declared.session_end.SessionEnd.TheVariants as ends
use Rattle.dp_sessions.specs.Sessions.{IsCutOff, Streams}
use Rattle.dp_text.specs.OperatorLines.{command_in}
use Rattle.dp_sessions.specs.Operators.{BeginsWith, FallsInto, fault_text}

-- the entries that an event left: one with its outcome, or none if it was refused
abbrev pub IsTakenBy : Event → Outcome → List Entry → Type 0
IsTakenBy event outcome entries =
    ((entry : Entry) × (entries ≡ entry ∷ []) × (entry.event ≡ event) × (outcome ≡ entry.outcome))
    ⊎ ((entries ≡ []) × (fault : OperatorFault) × (outcome ≡ Refused fault))

-- a look was answered by what some number of first entries of the journal left
abbrev pub IsSeenIn : Content → Question → Answer → Type 0
IsSeenIn content question answer = (count : ℕ) × (count ≤ length content.book.entries) × (answer ≡ answer_in content.book.room (world_after content count) (first_entries content count) question)

-- the input of a driven slave, made from what a look saw of the slave, left these entries
abbrev pub IsFedAsSeenBy : DrivenSlave → Option SlaveView → ℕ → List Entry → Type 0
IsFedAsSeenBy driven None recorded entries = (entries ≡ []) × (recorded ≡ 0)
IsFedAsSeenBy driven (Some slave) recorded entries = (outcome : Outcome) × IsTakenBy (Operator (next_input driven slave)) outcome entries × (recorded ≡ length entries)

-- .. with that look
abbrev pub IsFedBy : Content → DrivenSlave → ℕ → List Entry → Type 0
IsFedBy content driven recorded entries = (seen : Option SlaveView) × IsSeenIn content (Question.View driven.address) (Answer.View seen) × IsFedAsSeenBy driven seen recorded entries

-- .. of all driven slaves, in order
abbrev pub AreFedBy : Content → List DrivenSlave → ℕ → List Entry → Type 0
AreFedBy content [] recorded entries = (entries ≡ []) × (recorded ≡ 0)
AreFedBy content (driven ∷ others) recorded entries =
    (first rest : List Entry) × (a b : ℕ) × (entries ≡ first ++ rest) × IsFedBy content driven a first × AreFedBy content others b rest × (recorded ≡ a + b)

-- a command left these entries, and this is its answer
abbrev pub IsOperatedBy : Content → List DrivenSlave → OpLine → List ℕ → List Entry → Type 0
IsOperatedBy content driven (asked.Event op) text entries = (outcome : Outcome) × IsTakenBy (Operator op) outcome entries × (text ≡ outcome_line outcome)
IsOperatedBy content driven (asked.Owned master) text entries =
    (addresses : ArrayVec ℕ) × IsSeenIn content (Question.Owned master) (Answer.Owned addresses) × (entries ≡ []) × (text ≡ owned_text addresses.items)
IsOperatedBy content driven (asked.Show address) text entries = (seen : Option SlaveView) × IsSeenIn content (Question.View address) (Answer.View seen) × (entries ≡ []) × (text ≡ show_text seen)
IsOperatedBy content driven asked.Step text entries = (recorded : ℕ) × AreFedBy content driven recorded entries × (text ≡ stepped_text recorded)
IsOperatedBy content driven asked.Nothing text entries = (entries ≡ []) × (text ≡ [])

-- .. of a line, which may be no command
abbrev pub IsDoneBy : Content → List DrivenSlave → Result OpLine LineFault → List ℕ → List Entry → Type 0
IsDoneBy content driven (Ok op_line) text entries = IsOperatedBy content driven op_line text entries
IsDoneBy content driven (Err fault) text entries = (entries ≡ []) × (text ≡ fault_text fault)

-- lines are answered one after another, each with one text and by the next entries
abbrev pub AreAnsweredBy : Content → List DrivenSlave → List (List ℕ) → List (List ℕ) → List Entry → Type 0
AreAnsweredBy content driven [] texts entries = (entries ≡ []) × (texts ≡ [])
AreAnsweredBy content driven (line ∷ lines) texts entries =
    (first rest : List Entry) × (text : List ℕ) × (others : List (List ℕ)) × (entries ≡ first ++ rest) × (texts ≡ text ∷ others)
    × IsDoneBy content driven (command_in line) text first × AreAnsweredBy content driven lines others rest

-- all lines of the stream were answered, and every answer is written
pub record AreServedBy (content : Content) (driven : List DrivenSlave) (stream : List ℕ) (entries : List Entry) (old new : Option (List ℕ)) : Type 0 where
  pub lines : List (List ℕ)
  pub rest : List ℕ
  pub parted : FallsInto stream lines rest
  pub texts : List (List ℕ)
  pub answered : AreAnsweredBy content driven lines texts entries
  pub written : Appends old new (concat texts)

-- the first lines were answered, and a write failed in the answer to the last of these
pub record AreBrokenOffBy (content : Content) (driven : List DrivenSlave) (stream : List ℕ) (entries : List Entry) (old new : Option (List ℕ)) : Type 0 where
  pub lines : List (List ℕ)
  pub others : List ℕ
  pub begins : BeginsWith stream lines others
  pub texts : List (List ℕ)
  pub answered : AreAnsweredBy content driven lines texts entries
  pub written : IsCutOff old new texts

-- .. by the end of the session
abbrev pub AnswersLines : SessionEnd → Content → List DrivenSlave → ℕ → ℕ → List ℕ → List Entry → Option (List ℕ) → Option (List ℕ) → Option (List ℕ) → Type 0
AnswersLines ends.EndOfInput content driven turns made stream entries left old new = AreServedBy content driven stream entries old new × IsAtEnd left
AnswersLines ends.ReadFault content driven turns made stream entries left old new = AreServedBy content driven stream entries old new
AnswersLines ends.TurnLimit content driven turns made stream entries left old new = AreServedBy content driven stream entries old new × (made ≡ turns) × (made ≤ length stream)
AnswersLines ends.WriteFault content driven turns made stream entries left old new = AreBrokenOffBy content driven stream entries old new
AnswersLines other content driven turns made stream entries left old new = ⊥

-- a stream was read in at most `turns` reads, and its lines were answered by these entries and by looks at the journal
pub record HasAnsweredLines (content : Content) (driven : List DrivenSlave) (turns : ℕ) (streams : Streams) (entries : List Entry) (end : SessionEnd) : Type 0 where
  pub stream : List ℕ
  pub read : Consumes streams.left streams.left_after stream
  pub made : ℕ
  pub most : made ≤ turns
  pub answers : AnswersLines end content driven turns made stream entries streams.left_after streams.written streams.written_after
