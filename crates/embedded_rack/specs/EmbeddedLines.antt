-- detail
-- A line that a script runs on, and the octets that its masters send (own).
use Rattle.std.specs.Prelude.{ℕ, ◌==◌, List, [], ◌∷◌, ◌++◌, map, slice_get, slice_set, Option, option_map, option_and_then, position}
use Rattle.dp_telegram.specs.declared.cutter.Cut.{Cut}
use Rattle.dp_telegram.specs.declared.cutter.Cut.TheVariants as pieces
use Rattle.dp_telegram.specs.Stream.{CutStream, cuts_of}
use Rattle.dp_line.specs.declared.event.Event.{Event as LineEvent}
use Rattle.dp_line.specs.declared.event.Event.TheVariants.{Request, Operator}
use Rattle.dp_line.specs.declared.event.Outcome.{Outcome}
use Rattle.dp_line.specs.declared.event.Op.{Op}
use Rattle.dp_slave.specs.View.{view_of}
use Rattle.dp_line.specs.World.{Description, slave_at}
use Rattle.dp_line.specs.Owned.{owned}
use Rattle.dp_line.specs.Steps.{step}
use Rattle.dp_audit.specs.Journal.{Journal, opened, taken}
use Rattle.dp_audit.specs.AuditText.{audit_text, version_of}
use Rattle.dp_text.specs.declared.op_line.OpLine.{OpLine}
use Rattle.dp_text.specs.declared.op_line.OpLine.TheVariants.{Event, Owned, Show, Step, Nothing}
use Rattle.dp_text.specs.Texts.{outcome_line, answer_text, dropped_text, owned_text, show_text, stepped_text}
use Rattle.rack_devices.specs.declared.driven_slave.DrivenSlave.{DrivenSlave}
use Rattle.rack_devices.specs.DrivenSlaves.{driven_slaves}
use Rattle.embedded_rack.specs.DeviceSteps.{fed_each}

-- a master's stream: the octets that were sent and can't be judged yet
pub record Stream : Type 0 where
  pub master : ℕ
  pub held : List ℕ

-- a line that a script runs on: its journal, a stream for each of its masters, and the slaves that devices drive
pub record EmbeddedLine : Type 0 where
  pub journal : Journal
  pub streams : List Stream
  pub driven : List DrivenSlave

-- the stream of a master before it sent any octets
abbrev pub empty_stream : ℕ → Stream
empty_stream master = record { master = master; held = [] }

-- the line at its start
abbrev pub line_at_start : Description → EmbeddedLine
line_at_start line = record { journal = opened line; streams = map empty_stream line.masters; driven = driven_slaves line.slaves }

-- the outcome of an event
abbrev pub reported_of : Journal → LineEvent → Outcome
reported_of journal event = (step journal.state.world event).answer.outcome

-- the result of pieces of a stream: the journal, and the text that is written
pub record Answered : Type 0 where
  pub journal : Journal
  pub text : List ℕ

-- a frame is one event, and its answer is written; dropped octets are no event, and are reported
abbrev pub piece_answered : Journal → ℕ → Cut → Answered
piece_answered journal master (pieces.Frame frame octets) =
    record { journal = taken journal (Request master octets); text = answer_text master (reported_of journal (Request master octets)) }
piece_answered journal master (pieces.Dropped fault count) = record { journal = journal; text = dropped_text master fault count }

-- pieces one after another
abbrev pub pieces_answered : Journal → ℕ → List Cut → Answered
pieces_answered journal master [] = record { journal = journal; text = [] }
pieces_answered journal master (piece ∷ others) =
    let first = piece_answered journal master piece in
    let rest = pieces_answered first.journal master others in
    record { journal = rest.journal; text = first.text ++ rest.text }

-- the result of octets that a master sends: the journal, the stream, and the text that is written
pub record Passed : Type 0 where
  pub journal : Journal
  pub stream : Stream
  pub text : List ℕ

-- the pieces of a stream are answered, and what can't be judged yet is held
abbrev pub cut_passed : Journal → ℕ → CutStream → Passed
cut_passed journal master cut =
    let answered = pieces_answered journal master cut.cuts in
    record { journal = answered.journal; stream = record { master = master; held = cut.rest }; text = answered.text }

-- octets continue the stream, in whatever pieces they are sent
abbrev pub passed : Journal → Stream → List ℕ → Passed
passed journal stream octets = cut_passed journal stream.master (cuts_of (stream.held ++ octets))

-- octets that are sent after others
abbrev pub then_passed : Passed → List ℕ → Passed
then_passed before octets =
    let after = passed before.journal before.stream octets in
    record { journal = after.journal; stream = after.stream; text = before.text ++ after.text }

-- the result of a command to a line: the line, and the text that is written
pub record Sent : Type 0 where
  pub line : EmbeddedLine
  pub text : List ℕ

-- octets are sent on the stream at this index
abbrev pub sent_at : EmbeddedLine → List ℕ → ℕ → Stream → Sent
sent_at line octets index stream =
    let passing = passed line.journal stream octets in
    record {
      line = record line { journal = passing.journal; streams = slice_set line.streams index passing.stream };
      text = passing.text;
    }

-- a master sends octets; None if it is no master of the line
abbrev pub sent : EmbeddedLine → ℕ → List ℕ → Option Sent
sent line master octets =
    option_and_then
    (λ index. option_map (sent_at line octets index) (slice_get line.streams index))
    (position (λ stream. stream.master == master) line.streams)

-- the slaves that a master holds; none for an address that is no master's
abbrev pub owned_line : EmbeddedLine → ℕ → List ℕ
owned_line line master = owned_text (owned line.journal.state.world master)

-- the slave at an address, if one has it
abbrev pub show_line : EmbeddedLine → ℕ → List ℕ
show_line line address = show_text (option_map view_of (slave_at line.journal.state.world address))

-- an event of the operator; it leaves the streams unchanged
abbrev pub took : EmbeddedLine → Op → Sent
took line op =
    record {
      line = record line { journal = taken line.journal (Operator op) };
      text = outcome_line (reported_of line.journal (Operator op));
    }

-- the devices of the line update the inputs of their slaves, in ascending order of address; the text has the number of recorded Inputs
abbrev pub stepped : EmbeddedLine → Sent
stepped line =
    let fed = fed_each line.journal line.driven in
    record { line = record line { journal = fed.journal }; text = stepped_text fed.recorded }

-- a query leaves the line unchanged
abbrev pub reported : EmbeddedLine → List ℕ → Sent
reported line text = record { line = line; text = text }

-- the result of a line of the operator
abbrev pub operated : EmbeddedLine → OpLine → Sent
operated line (Event op) = took line op
operated line (Owned master) = reported line (owned_line line master)
operated line (Show address) = reported line (show_line line address)
operated line Step = stepped line
operated line Nothing = reported line []

-- the audit text of the line's journal
abbrev pub journal_text : EmbeddedLine → List ℕ
journal_text line = audit_text (version_of line.journal.opening.capacity) line.journal.number line.journal.entries
