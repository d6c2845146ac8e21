-- detail
-- A rack in process: its lines, the answer to the last event and the last text; and what each call leaves and returns (own).
use Rattle.std.specs.Prelude.{ℕ, ◌==◌, if◌then◌else◌, Bool, List, [], length, map, slice_get, slice_set, position, Option, Some, None, Result, Ok, Err, ◌≡◌}
use Rattle.dp_line.specs.declared.event.Outcome.TheVariants as outcomes
use Rattle.dp_line.specs.declared.event.Step.{Step}
use Rattle.dp_line.specs.World.{Description, description_of}
use Rattle.dp_text.specs.declared.op_line.OpLine.{OpLine}
use Rattle.dp_text.specs.OpLines.{op_line_of}
use Rattle.rack_file.specs.declared.fault.RackFault.{RackFault}
use Rattle.rack_file.specs.declared.rack.RackLine.{RackLine}
use Rattle.rack_file.specs.Rack.{RackDescription}
use Rattle.embedded_rack.specs.EmbeddedLines.{EmbeddedLine, Sent, line_at_start, operated as line_operated}
use Rattle.embedded_rack.specs.LineCalls.{LineAnswer, LineCalled, LineFed, endless_line_at_start, time_passed, line_fed, line_next, line_requested, row_of}
use Rattle.embedded_rack.specs.declared.call_fault.CallFault.{CallFault}
use Rattle.embedded_rack.specs.declared.call_fault.CallFault.TheVariants as calls
use Rattle.embedded_rack.specs.declared.taken_piece.TakenPiece.{TakenPiece}

pub record EmbeddedRack : Type 0 where
  -- the description of each line, at its index, and whether the lines forget old entries
  pub described : List Description
  pub forgets : Bool
  pub lines : List EmbeddedLine
  pub answer : Step
  pub text : List ℕ

abbrev pub descriptions_of : List RackLine → List Description
descriptions_of lines = map (λ line. description_of line.spec) lines

-- no event was taken yet
abbrev pub blank_answer : Step
blank_answer = record { place = None; facts = None; outcome = outcomes.Done; halted = None }

-- a line at its start, an ordinary one or an endless one
abbrev pub line_opened : Bool → Description → EmbeddedLine
line_opened endless line = if endless then endless_line_at_start line else line_at_start line

abbrev pub rack_at_start : Bool → RackDescription → EmbeddedRack
rack_at_start endless rack = record { described = map (λ line. line.line) rack.lines; forgets = endless; lines = map (λ line. line_opened endless line.line) rack.lines; answer = blank_answer; text = [] }

-- the rack is the one that a text describes, at its start
abbrev pub Opens : Bool → Result RackDescription RackFault → EmbeddedRack → Type 0
Opens endless (Ok rack) opened = opened ≡ rack_at_start endless rack
Opens endless (Err fault) opened = ⊥

-- a call: the rack after it, and what it returns
pub record Called (T : Type 0) : Type 0 where
  pub rack : EmbeddedRack
  pub result : Result T CallFault

-- a refused call changes nothing
abbrev pub refused : {T : Type 0} → EmbeddedRack → CallFault → Called T
refused rack fault = record { rack = rack; result = Err fault }

abbrev pub at_slot : {T : Type 0} → EmbeddedRack → (EmbeddedLine → Called T) → Option EmbeddedLine → Called T
at_slot rack call None = refused rack calls.NoLine
at_slot rack call (Some line) = call line

abbrev pub at_index : {T : Type 0} → EmbeddedRack → (ℕ → EmbeddedLine → Called T) → Option ℕ → Called T
at_index rack call None = refused rack calls.NoLine
at_index rack call (Some index) = at_slot rack (call index) (slice_get rack.lines index)

-- a call to the first line of this number, by its index
abbrev pub at_line : {T : Type 0} → EmbeddedRack → ℕ → (ℕ → EmbeddedLine → Called T) → Called T
at_line rack number call = at_index rack call (position (λ line. line.journal.number == number) rack.lines)

-- an event of the line at this index
abbrev pub answered : EmbeddedRack → ℕ → LineAnswer → Called (Unit {0})
answered rack index done = record { rack = record rack { lines = slice_set rack.lines index done.line; answer = done.answer }; result = Ok tt }

-- a call to the line at this index
abbrev pub called_at : {T : Type 0} → EmbeddedRack → ℕ → LineCalled T → Called T
called_at rack index done = record { rack = record rack { lines = slice_set rack.lines index done.line; answer = done.answer }; result = done.result }

-- a whole frame of a master is taken; other octets are refused
abbrev pub requested : EmbeddedRack → ℕ → ℕ → List ℕ → Called (Unit {0})
requested rack number master octets = at_line rack number (λ index line. called_at rack index (line_requested line master octets rack.answer))

-- time passes on the line
abbrev pub ticked : EmbeddedRack → ℕ → ℕ → Called (Unit {0})
ticked rack number units = at_line rack number (λ index line. answered rack index (time_passed line units))

-- octets of a master's stream are held, as many as there is room for
abbrev pub fed_at : EmbeddedRack → ℕ → LineFed → Called ℕ
fed_at rack index done = record { rack = record rack { lines = slice_set rack.lines index done.line }; result = done.result }

abbrev pub fed : EmbeddedRack → ℕ → ℕ → List ℕ → Called ℕ
fed rack number master octets = at_line rack number (λ index line. fed_at rack index (line_fed line master octets))

-- the next piece of a master's stream is taken
abbrev pub next_piece : EmbeddedRack → ℕ → ℕ → Called (Option TakenPiece)
next_piece rack number master = at_line rack number (λ index line. called_at rack index (line_next line master rack.answer))

-- a line of the operator is obeyed, and the text is its answer; other octets are refused
abbrev pub operated_at : EmbeddedRack → ℕ → Sent → Called (Unit {0})
operated_at rack index done = record { rack = record rack { lines = slice_set rack.lines index done.line; text = done.text }; result = Ok tt }

abbrev pub operated_by : EmbeddedRack → ℕ → EmbeddedLine → Option OpLine → Called (Unit {0})
operated_by rack index line None = refused rack calls.NoCommand
operated_by rack index line (Some op_line) = operated_at rack index (line_operated line op_line)

abbrev pub operated : EmbeddedRack → ℕ → List ℕ → Called (Unit {0})
operated rack number octets = at_line rack number (λ index line. operated_by rack index line (op_line_of octets))

-- the number of entries of the line's journal, forgotten ones included
abbrev pub entries_counted : EmbeddedRack → ℕ → Called ℕ
entries_counted rack number = at_line rack number (λ index line. record { rack = rack; result = Ok (length line.journal.entries) })

-- the text is the row at a place of the line's audit text, and empty if there is none
abbrev pub rowed_by : EmbeddedRack → Option (List ℕ) → Called (Unit {0})
rowed_by rack None = record { rack = record rack { text = [] }; result = Err calls.NoEntry }
rowed_by rack (Some row) = record { rack = record rack { text = row }; result = Ok tt }

abbrev pub rowed : EmbeddedRack → ℕ → ℕ → Called (Unit {0})
rowed rack number place = at_line rack number (λ index line. rowed_by rack (row_of line place))
