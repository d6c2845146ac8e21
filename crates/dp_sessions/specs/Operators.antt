-- promise
-- What a session of an operator reads, does and writes (own).
use Rattle.std.specs.Prelude.{codes, ◌≡◌, ◌⊎◌, ℕ, ◌+◌, ◌≤◌, if◌then◌else◌, true, false, not, ◌==◌, List, [], ◌∷◌, ◌++◌, map, length, Option, Some, None, is_some, IfNone, IfSome, Result, Ok, Err}
use Rattle.std.specs.List.{AllByRecursion, concat, list_all}
use Rattle.std.specs.Io.KnownBytes.{Appends, Consumes, IsAtEnd, Keeps}
use Rattle.arrayvec.specs.ArrayVec.{ArrayVec}
use Rattle.dp_slave.specs.declared.view.SlaveView.{SlaveView}
use Rattle.dp_line.specs.declared.event.Event.{Event}
use Rattle.dp_line.specs.declared.event.Event.TheVariants.{Operator}
use Rattle.dp_line.specs.declared.event.Outcome.TheVariants.{Refused}
use Rattle.dp_line.specs.declared.fault.OperatorFault.{OperatorFault}
use Rattle.dp_audit.specs.declared.entry.Receipt.{Receipt}
use Rattle.dp_shared.specs.declared.line_view.PassView.{PassView}
use Rattle.dp_shared.specs.declared.line_view.Question.{Question}
use Rattle.dp_shared.specs.declared.line_view.Answer.{Answer}
use Rattle.dp_shared.specs.Passes.{look_by, new_pass, with_look, with_receipt}
use Rattle.dp_text.specs.declared.op_line.OpLine.{OpLine}
use Rattle.dp_text.specs.declared.op_line.OpLine.TheVariants as asked
use Rattle.dp_text.specs.Texts.{outcome_line, owned_text, show_text, stepped_text}
use Rattle.rack_devices.specs.declared.driven_slave.DrivenSlave.{DrivenSlave}
use Rattle.dp_text.specs.declared.operator_line.LineFault.{LineFault}
use Rattle.dp_text.specs.OperatorLines.{command_in, line_fault_name}
use Rattle.dp_sessions.specs.declared.session_end.SessionEnd.{SessionEnd}
use Rattle.dp_sessions.specs.declared.session_end.SessionEnd.TheVariants as ends
use Rattle.rack_devices.specs.DrivenSlaves.{next_input}
use Rattle.dp_sessions.specs.Sessions.{IsCutOff, Streams}

-- ---- lines

abbrev pub line_feed : ℕ
line_feed = 10

-- octets of a line, none of which is an LF
abbrev pub IsUnended : List ℕ → Type 0
IsUnended line = list_all (λ octet. not (octet == line_feed)) line ≡ true

-- a line as it is sent, with its LF
abbrev pub ended : List ℕ → List ℕ
ended line = line ++ line_feed ∷ []

-- a stream begins with these lines, and these other octets follow
pub record BeginsWith (stream : List ℕ) (lines : List (List ℕ)) (others : List ℕ) : Type 0 where
  pub whole : stream ≡ concat (map ended lines) ++ others
  pub unended : AllByRecursion IsUnended lines

-- a stream consists of these lines and of the octets after the last LF
pub record FallsInto (stream : List ℕ) (lines : List (List ℕ)) (rest : List ℕ) : Type 0 where
  pub begins : BeginsWith stream lines rest
  pub unended : IsUnended rest

-- ---- what a line does

-- the text that answers a line that can't be done: `fault FAULT`
abbrev pub fault_text : LineFault → List ℕ
fault_text fault = codes "fault " ++ line_fault_name fault ++ codes "\n"

-- One event added a receipt with the outcome to the pass. Without a place the receipt has the reason of the refusal. With a place, the pass had not
-- been answered that the line is halted.
pub record IsTaken (event : Event) (before after : PassView) (receipt : Receipt) : Type 0 where
  pub event_is : receipt.event ≡ event
  pub gained : after ≡ with_receipt before receipt receipt.place
  pub refused : IfNone receipt.place ((receipt.facts ≡ None) × (fault : OperatorFault) × (receipt.outcome ≡ Refused fault))
  pub running : IfSome receipt.place (λ _. before.saw_halt ≡ false)

-- one look, after some number of entries
abbrev pub IsLook : Question → Answer → PassView → PassView → Type 0
IsLook question answer before after = (count : ℕ) × (after ≡ with_look before (look_by before question count answer))

-- if the slave is seen, its device gives it the next input, which counts if it has a place; otherwise nothing happens
abbrev pub IsFedAsSeen : DrivenSlave → Option SlaveView → PassView → PassView → ℕ → Type 0
IsFedAsSeen driven None before after recorded = (after ≡ before) × (recorded ≡ 0)
IsFedAsSeen driven (Some slave) before after recorded =
    (receipt : Receipt) × IsTaken (Operator (next_input driven slave)) before after receipt × (recorded ≡ (if is_some receipt.place then 1 else 0))

-- a look at a slave, and then the next input of its device
pub record IsFed (driven : DrivenSlave) (before after : PassView) (recorded : ℕ) : Type 0 where
  pub seen : Option SlaveView
  pub looked : PassView
  pub look : IsLook (Question.View driven.address) (Answer.View seen) before looked
  pub fed : IsFedAsSeen driven seen looked after recorded

-- the inputs of one slave after another, and the number that were recorded
abbrev pub AreFed : List DrivenSlave → PassView → PassView → ℕ → Type 0
AreFed [] before after recorded = (after ≡ before) × (recorded ≡ 0)
AreFed (driven ∷ others) before after recorded =
    (between : PassView) × (first rest : ℕ) × IsFed driven before between first × AreFed others between after rest × (recorded ≡ first + rest)

-- the pass carries out what is asked for, and this is the answer; these are the slaves that devices drive
abbrev pub IsOperated : List DrivenSlave → OpLine → PassView → PassView → List ℕ → Type 0
IsOperated driven (asked.Event op) before after text = (receipt : Receipt) × IsTaken (Operator op) before after receipt × (text ≡ outcome_line receipt.outcome)
IsOperated driven (asked.Owned master) before after text = (addresses : ArrayVec ℕ) × IsLook (Question.Owned master) (Answer.Owned addresses) before after × (text ≡ owned_text addresses.items)
IsOperated driven (asked.Show address) before after text = (seen : Option SlaveView) × IsLook (Question.View address) (Answer.View seen) before after × (text ≡ show_text seen)
IsOperated driven asked.Step before after text = (recorded : ℕ) × AreFed driven before after recorded × (text ≡ stepped_text recorded)
IsOperated driven asked.Nothing before after text = (after ≡ before) × (text ≡ [])

-- a line is carried out, or it is answered with its fault
abbrev pub IsDone : List DrivenSlave → Result OpLine LineFault → PassView → PassView → List ℕ → Type 0
IsDone driven (Ok op_line) before after text = IsOperated driven op_line before after text
IsDone driven (Err fault) before after text = (after ≡ before) × (text ≡ fault_text fault)

abbrev pub IsAnswered : List DrivenSlave → List ℕ → PassView → PassView → List ℕ → Type 0
IsAnswered driven line before after text = IsDone driven (command_in line) before after text

-- lines are answered one after another, each with one text
abbrev pub AreAnswered : List DrivenSlave → List (List ℕ) → PassView → PassView → List (List ℕ) → Type 0
AreAnswered driven [] before after texts = (after ≡ before) × (texts ≡ [])
AreAnswered driven (line ∷ lines) before after texts =
    (between : PassView) × (text : List ℕ) × (others : List (List ℕ)) × (texts ≡ text ∷ others)
    × IsAnswered driven line before between text × AreAnswered driven lines between after others

-- ---- a session

-- all lines of the stream were answered, and every answer is written; octets after the last LF are dropped
pub record AreServed (driven : List DrivenSlave) (stream : List ℕ) (before after : PassView) (old new : Option (List ℕ)) : Type 0 where
  pub lines : List (List ℕ)
  pub rest : List ℕ
  pub parted : FallsInto stream lines rest
  pub texts : List (List ℕ)
  pub answered : AreAnswered driven lines before after texts
  pub written : Appends old new (concat texts)

-- the first lines of the stream were answered, and a write failed in the answer to the last of these
pub record AreBrokenOff (driven : List DrivenSlave) (stream : List ℕ) (before after : PassView) (old new : Option (List ℕ)) : Type 0 where
  pub lines : List (List ℕ)
  pub others : List ℕ
  pub begins : BeginsWith stream lines others
  pub texts : List (List ℕ)
  pub answered : AreAnswered driven lines before after texts
  pub written : IsCutOff old new texts

-- A stream was read, and its lines were answered. The end of the session says how far, how many reads it made of the `turns` that it may make, and
-- what is left to read.
abbrev pub Operates : SessionEnd → List DrivenSlave → ℕ → ℕ → List ℕ → PassView → PassView → Option (List ℕ) → Option (List ℕ) → Option (List ℕ) → Type 0
Operates ends.EndOfInput driven turns made stream before after left old new = AreServed driven stream before after old new × IsAtEnd left
Operates ends.ReadFault driven turns made stream before after left old new = AreServed driven stream before after old new
-- all reads that it may make were made, and each returned at least one octet
Operates ends.TurnLimit driven turns made stream before after left old new = AreServed driven stream before after old new × (made ≡ turns) × (made ≤ length stream)
Operates ends.WriteFault driven turns made stream before after left old new = AreBrokenOff driven stream before after old new
Operates other driven turns made stream before after left old new = ⊥

-- no pass, and nothing is read or written
pub record HasNoPass (streams : Streams) (end : SessionEnd) : Type 0 where
  pub ended_so : end ≡ ends.NoPass
  pub unread : Keeps streams.left streams.left_after
  pub unwritten : Keeps streams.written streams.written_after

-- by a given pass, a stream was read in at most `turns` reads, and its lines were answered
pub record HasOperatedBy (driven : List DrivenSlave) (turns : ℕ) (streams : Streams) (before after : PassView) (end : SessionEnd) : Type 0 where
  pub stream : List ℕ
  pub read : Consumes streams.left streams.left_after stream
  -- the number of reads that were made
  pub made : ℕ
  pub most : made ≤ turns
  pub operated : Operates end driven turns made stream before after streams.left_after streams.written streams.written_after

-- a new pass of an operator answers the stream
pub record HasOperated (driven : List DrivenSlave) (turns : ℕ) (streams : Streams) (end : SessionEnd) : Type 0 where
  pub number : ℕ
  pub pass : PassView
  pub operated : HasOperatedBy driven turns streams (new_pass number 127) pass end

-- a session of an operator, of at most `turns` reads, with a line on which devices drive these slaves
abbrev pub IsOperatorSession : List DrivenSlave → ℕ → Streams → SessionEnd → Type 0
IsOperatorSession driven turns streams end = HasNoPass streams end ⊎ HasOperated driven turns streams end
