-- detail
-- What a call leaves of a line of a rack in process, and its answer (own).
use Rattle.std.specs.Prelude.{ℕ, ◌-◌, ◌==◌, if◌then◌else◌, List, ◌++◌, length, min, take, slice_get, slice_set, position, Option, Some, None, option_map, Result, Ok, Err}
use Rattle.dp_telegram.specs.declared.cutter.Cut.{Cut}
use Rattle.dp_telegram.specs.declared.cutter.Cut.TheVariants as pieces
use Rattle.dp_telegram.specs.Stream.{piece_of, left_of}
use Rattle.dp_telegram.specs.declared.fault.FrameFault.{FrameFault}
use Rattle.dp_telegram.specs.FrameText.{fault_of}
use Rattle.dp_line.specs.declared.event.Event.{Event}
use Rattle.dp_line.specs.declared.event.Event.TheVariants.{Request, Operator}
use Rattle.dp_line.specs.declared.event.Op.TheVariants.{Tick}
use Rattle.dp_line.specs.declared.event.Step.{Step}
use Rattle.dp_line.specs.World.{Description}
use Rattle.dp_line.specs.Steps.{step}
use Rattle.dp_audit.specs.Journal.{Journal, opened_endless, kept_in, taken}
use Rattle.dp_audit.specs.AuditText.{entry_text, header_text, line_text, version_of}
use Rattle.embedded_rack.specs.EmbeddedLines.{EmbeddedLine, Stream, line_at_start}
use Rattle.embedded_rack.specs.declared.call_fault.CallFault.{CallFault}
use Rattle.embedded_rack.specs.declared.call_fault.CallFault.TheVariants as calls
use Rattle.embedded_rack.specs.declared.taken_piece.TakenPiece.{TakenPiece}
use Rattle.embedded_rack.specs.declared.taken_piece.TakenPiece.TheVariants as takes

-- an endless line at its start: it forgets old entries
abbrev pub endless_line_at_start : Description → EmbeddedLine
endless_line_at_start line = record (line_at_start line) { journal = opened_endless line }

-- an event: the line after it, and the answer to it
pub record LineAnswer : Type 0 where
  pub line : EmbeddedLine
  pub answer : Step

abbrev pub event_taken : EmbeddedLine → Event → LineAnswer
event_taken line event = record { line = record line { journal = taken line.journal event }; answer = (step line.journal.state.world event).answer }

-- a whole frame of a master is one event
abbrev pub frame_taken : EmbeddedLine → ℕ → List ℕ → LineAnswer
frame_taken line master octets = event_taken line (Request master (record { items = octets }))

-- time passes
abbrev pub time_passed : EmbeddedLine → ℕ → LineAnswer
time_passed line units = event_taken line (Operator (Tick units))

-- how many octets a stream takes: it holds at most 255
abbrev pub taken_by : Stream → List ℕ → ℕ
taken_by stream octets = min (length octets) (255 - length stream.held)

-- the stream after it took them
abbrev pub stream_fed : Stream → List ℕ → Stream
stream_fed stream octets = record stream { held = stream.held ++ take (taken_by stream octets) octets }

-- the first piece of a stream is taken: the journal and the stream after it, the answer if it is a frame, and the piece
pub record StreamNext : Type 0 where
  pub journal : Journal
  pub stream : Stream
  pub answer : Step
  pub piece : Option TakenPiece

-- the journal after a piece: a frame is one event, dropped octets are none
abbrev pub piece_taken : Journal → ℕ → Cut → Journal
piece_taken journal master (pieces.Frame frame octets) = taken journal (Request master octets)
piece_taken journal master (pieces.Dropped fault count) = journal

-- the answer after a piece: that to the frame, else the one before
abbrev pub answer_to_piece : Journal → ℕ → Step → Cut → Step
answer_to_piece journal master before (pieces.Frame frame octets) = (step journal.state.world (Request master octets)).answer
answer_to_piece journal master before (pieces.Dropped fault count) = before

-- what is returned of a piece
abbrev pub piece_as_taken : Cut → TakenPiece
piece_as_taken (pieces.Frame frame octets) = takes.Frame
piece_as_taken (pieces.Dropped fault count) = takes.Dropped fault count

-- the octets held begin with this piece; with none, they can't be judged yet, and nothing changes
abbrev pub next_by_piece : Journal → Stream → Step → Option Cut → StreamNext
next_by_piece journal stream answer None = record { journal = journal; stream = stream; answer = answer; piece = None }
next_by_piece journal stream answer (Some piece) = record {
  journal = piece_taken journal stream.master piece;
  stream = record stream { held = left_of stream.held };
  answer = answer_to_piece journal stream.master answer piece;
  piece = Some (piece_as_taken piece);
}

abbrev pub stream_next : Journal → Stream → Step → StreamNext
stream_next journal stream answer = next_by_piece journal stream answer (piece_of stream.held)

-- the stream of a master, and its index among those of the line
pub record FoundStream : Type 0 where
  pub index : ℕ
  pub stream : Stream

abbrev pub found_at : EmbeddedLine → ℕ → Option FoundStream
found_at line index = option_map (λ stream. record { index = index; stream = stream }) (slice_get line.streams index)

abbrev pub found_by_index : EmbeddedLine → Option ℕ → Option FoundStream
found_by_index line None = None
found_by_index line (Some index) = found_at line index

-- None if the line has no such master
abbrev pub stream_found : EmbeddedLine → ℕ → Option FoundStream
stream_found line master = found_by_index line (position (λ stream. stream.master == master) line.streams)

-- octets are held: the line after it, and how many were taken
pub record LineFed : Type 0 where
  pub line : EmbeddedLine
  pub result : Result ℕ CallFault

abbrev pub fed_by_stream : EmbeddedLine → List ℕ → Option FoundStream → LineFed
fed_by_stream line octets None = record { line = line; result = Err calls.NoMaster }
fed_by_stream line octets (Some found) = record {
  line = record line { streams = slice_set line.streams found.index (stream_fed found.stream octets) };
  result = Ok (taken_by found.stream octets);
}

abbrev pub line_fed : EmbeddedLine → ℕ → List ℕ → LineFed
line_fed line master octets = fed_by_stream line octets (stream_found line master)

-- a call that may take an event: the line after it, the answer to the last event, and what the call returns
pub record LineCalled (T : Type 0) : Type 0 where
  pub line : EmbeddedLine
  pub answer : Step
  pub result : Result T CallFault

-- a whole frame of a master is one event of the line; other octets are refused
abbrev pub requested_by_fault : EmbeddedLine → ℕ → List ℕ → Step → Option FrameFault → LineCalled (Unit {0})
requested_by_fault line master octets answer None =
    let done = frame_taken line master octets in
    record { line = done.line; answer = done.answer; result = Ok tt }
requested_by_fault line master octets answer (Some fault) = record { line = line; answer = answer; result = Err (calls.NoFrame fault) }

abbrev pub line_requested : EmbeddedLine → ℕ → List ℕ → Step → LineCalled (Unit {0})
line_requested line master octets answer = requested_by_fault line master octets answer (fault_of octets)

-- the next piece of a master's stream
abbrev pub next_at : EmbeddedLine → ℕ → StreamNext → LineCalled (Option TakenPiece)
next_at line index next = record {
  line = record line { journal = next.journal; streams = slice_set line.streams index next.stream };
  answer = next.answer;
  result = Ok next.piece;
}

abbrev pub next_by_stream : EmbeddedLine → Step → Option FoundStream → LineCalled (Option TakenPiece)
next_by_stream line answer None = record { line = line; answer = answer; result = Err calls.NoMaster }
next_by_stream line answer (Some found) = next_at line found.index (stream_next line.journal found.stream answer)

abbrev pub line_next : EmbeddedLine → ℕ → Step → LineCalled (Option TakenPiece)
line_next line master answer = next_by_stream line answer (stream_found line master)

-- the row at a place of the audit text of a line, with its LF: place 0 has the header; None if no entry is there, or it is forgotten
abbrev pub row_of : EmbeddedLine → ℕ → Option (List ℕ)
row_of line place =
    if place == 0 then Some (line_text (header_text (version_of line.journal.opening.capacity) line.journal.number))
    else option_map (λ entry. line_text (entry_text entry)) (kept_in line.journal place)
