-- A call to a line of a rack, by the line that was found.
use Rattle.std.proofs.Common.{◌≡◌, ℕ, Bool, true, false, eqb, if◌then◌else◌, List, [], length, get_or, set, Option, Some, None, Ok, Err, refl, sym, ap, ◌∙◌}
use Rattle.std.specs.Prelude.{IfNone, MatchOption, is_none, ok_or, option_map, position, slice_get}
use Rattle.std.proofs.lemmas.List.{set-get_or}
use Rattle.std.proofs.lemmas.List.Quantifiers.{position-Some}
use Rattle.std.proofs.lemmas.Option.{slice_get_read}
use Rattle.dp_telegram.specs.declared.fault.FrameFault.{FrameFault}
use Rattle.dp_telegram.specs.FrameText.{fault_of}
use Rattle.dp_line.specs.declared.event.Step.{Step}
use Rattle.dp_audit.specs.Journal.{Journal}
use Rattle.dp_text.specs.declared.op_line.OpLine.{OpLine}
use Rattle.dp_text.specs.OpLines.{op_line_of}
use Rattle.rack_devices.specs.declared.driven_slave.DrivenSlave.{DrivenSlave}
use Rattle.embedded_rack.specs.declared.call_fault.CallFault.TheVariants as calls
use Rattle.embedded_rack.specs.EmbeddedLines.{EmbeddedLine, Stream, operated as line_operated}
use Rattle.embedded_rack.specs.LineCalls.{LineCalled, LineFed, StreamNext, found_by_index, frame_taken, line_fed, line_next, line_requested, next_at, next_by_stream, requested_by_fault, row_of, stream_next}
use Rattle.embedded_rack.specs.RackCalls.{EmbeddedRack, Called, at_index, at_line, at_slot, called_at, fed, fed_at, operated, operated_at, operated_by, rowed, rowed_by}
use Rattle.embedded_rack.proofs.Sending.{IsFound}

-- ---- a line

-- octets that were read as a frame have no fault
pub frame_read : (line : EmbeddedLine) (master : ℕ) (octets frame : List ℕ) (answer : Step) (fault : Option FrameFault)
    → Some frame ≡ (if is_none fault then Some octets else None)
    → record { line = (frame_taken line master frame).line; answer = (frame_taken line master frame).answer; result = Ok tt } ≡ requested_by_fault line master octets answer fault
frame_read line master octets frame answer None e =
    let same : frame ≡ octets = cc in
    ap (λ f. record { line = (frame_taken line master f).line; answer = (frame_taken line master f).answer; result = Ok tt }) same
frame_read line master octets frame answer (Some fault) e = absurd cc

pub frame_requested : (line : EmbeddedLine) (master : ℕ) (octets frame : List ℕ) (answer : Step) (journal : Journal) (after : Step)
    → Some frame ≡ (if is_none (fault_of octets) then Some octets else None)
    → journal ≡ (frame_taken line master frame).line.journal → after ≡ (frame_taken line master frame).answer
    → record { line = record line { journal = journal }; answer = after; result = Ok tt } ≡ line_requested line master octets answer
frame_requested line master octets frame answer journal after read journal_is answer_is =
    let done = frame_taken line master frame in
    ap (λ j. record { line = record line { journal = j }; answer = after; result = Ok tt }) journal_is
    ∙ ap (λ a. record { line = done.line; answer = a; result = Ok tt }) answer_is
    ∙ frame_read line master octets frame answer (fault_of octets) read

-- a piece of a stream, field by field
pub next_is : (journal : Journal) (stream : Stream) (answer : Step) (done : StreamNext)
    → done.journal ≡ (stream_next journal stream answer).journal → done.stream ≡ (stream_next journal stream answer).stream
    → done.answer ≡ (stream_next journal stream answer).answer → done.piece ≡ (stream_next journal stream answer).piece → done ≡ stream_next journal stream answer
next_is journal stream answer done journal_is stream_is answer_is piece_is =
    let all = stream_next journal stream answer in
    ap (λ j. record { journal = j; stream = done.stream; answer = done.answer; piece = done.piece }) journal_is
    ∙ ap (λ s. record { journal = all.journal; stream = s; answer = done.answer; piece = done.piece }) stream_is
    ∙ ap (λ a. record { journal = all.journal; stream = all.stream; answer = a; piece = done.piece }) answer_is
    ∙ ap (λ p. record { journal = all.journal; stream = all.stream; answer = all.answer; piece = p }) piece_is

-- the next piece of the stream that was found
pub next_found : (journal : Journal) (streams : List Stream) (driven : List DrivenSlave) (master index : ℕ) (stream : Stream) (answer : Step) (done : StreamNext)
    → IsFound streams master index stream → done ≡ stream_next journal stream answer
    → next_at (record { journal = journal; streams = streams; driven = driven }) index done ≡ line_next (record { journal = journal; streams = streams; driven = driven }) master answer
next_found journal streams driven master index stream answer done at is =
    let line : EmbeddedLine = record { journal = journal; streams = streams; driven = driven } in
    ap (next_at line index) is
    ∙ sym (ap (λ (o : Option Stream). next_by_stream line answer (option_map (λ (s : Stream). record { index = index; stream = s }) o)) at.stream_is)
    ∙ sym (ap (λ (o : Option ℕ). next_by_stream line answer (found_by_index line o)) at.place_is)

-- ---- a rack

-- the line at this index is the first one of this number
pub record IsLine (lines : List EmbeddedLine) (number index : ℕ) (line : EmbeddedLine) : Type 0 where
  pub place_is : position (λ l. eqb l.journal.number number) lines ≡ Some index
  pub line_is : slice_get lines index ≡ Some line
  pub stays : set lines index line ≡ lines

pub line_found : (lines : List EmbeddedLine) (number index : ℕ) (line : EmbeddedLine) → Some index ≡ position (λ l. eqb l.journal.number number) lines → line ≡ get_or lines index line
    → IsLine lines number index line
line_found lines number index line is read =
    let within = (position-Some (λ l. eqb l.journal.number number) lines index line (sym is)).0 in record {
      place_is = sym is;
      line_is = slice_get_read lines (length lines) index line refl within read;
      stays = ap (set lines index) read ∙ set-get_or lines index line;
    }

pub called : {T : Type 0} (rack : EmbeddedRack) (number index : ℕ) (line : EmbeddedLine) (call : ℕ → EmbeddedLine → Called T)
    → IsLine rack.lines number index line → at_line rack number call ≡ call index line
called rack number index line call at = ap (at_index rack call) at.place_is ∙ ap (at_slot rack (call index)) at.line_is

pub called_is : {T : Type 0} (rack : EmbeddedRack) (number index : ℕ) (line : EmbeddedLine) (call : EmbeddedLine → LineCalled T) (done : LineCalled T)
    → IsLine rack.lines number index line → done ≡ call line → called_at rack index done ≡ at_line rack number (λ i l. called_at rack i (call l))
called_is rack number index line call done at is = ap (called_at rack index) is ∙ sym (called rack number index line (λ i l. called_at rack i (call l)) at)

pub fed_is : (rack : EmbeddedRack) (number index : ℕ) (line : EmbeddedLine) (master : ℕ) (octets : List ℕ) (done : LineFed)
    → IsLine rack.lines number index line → done ≡ line_fed line master octets → fed_at rack index done ≡ fed rack number master octets
fed_is rack number index line master octets done at is =
    ap (fed_at rack index) is ∙ sym (called rack number index line (λ i l. fed_at rack i (line_fed l master octets)) at)

operated_by_line : (rack : EmbeddedRack) (index : ℕ) (line following : EmbeddedLine) (text : List ℕ) (read : Option (Unit {0})) (said : Option OpLine)
    → set rack.lines index line ≡ rack.lines
    → option_map (λ (d : Unit {0}). record { line = following; text = text }) read ≡ option_map (line_operated line) said
    → IfNone read (following ≡ line) → IfNone read (text ≡ rack.text)
    → record { rack = record rack { lines = set rack.lines index following; text = text }; result = ok_or read calls.NoCommand } ≡ operated_by rack index line said
operated_by_line rack index line following text None None stays done same kept =
    ap (λ l. record { rack = record rack { lines = set rack.lines index l; text = text }; result = Err calls.NoCommand }) same
    ∙ ap (λ ls. record { rack = record rack { lines = ls; text = text }; result = Err calls.NoCommand }) stays
    ∙ ap (λ t. record { rack = record rack { text = t }; result = Err calls.NoCommand }) kept
operated_by_line rack index line following text None (Some op) stays done same kept = absurd cc
operated_by_line rack index line following text (Some d) None stays done same kept = absurd cc
operated_by_line rack index line following text (Some d) (Some op) stays done same kept =
    let left : record { line = following; text = text } ≡ line_operated line op = cc in
    ap (operated_at rack index) left

pub operated_is : (rack : EmbeddedRack) (number index : ℕ) (line following : EmbeddedLine) (text command : List ℕ) (read : Option (Unit {0}))
    → IsLine rack.lines number index line
    → option_map (λ (d : Unit {0}). record { line = following; text = text }) read ≡ option_map (line_operated line) (op_line_of command)
    → IfNone read (following ≡ line) → IfNone read (text ≡ rack.text)
    → record { rack = record rack { lines = set rack.lines index following; text = text }; result = ok_or read calls.NoCommand } ≡ operated rack number command
operated_is rack number index line following text command read at done same kept =
    operated_by_line rack index line following text read (op_line_of command) at.stays done same kept
    ∙ sym (called rack number index line (λ i l. operated_by rack i l (op_line_of command)) at)

rowed_by_line : (rack : EmbeddedRack) (row : Option (List ℕ)) (found : Bool) (text : List ℕ)
    → MatchOption row ((found ≡ false) × (text ≡ [])) (λ row. (found ≡ true) × (text ≡ row))
    → record { rack = record rack { text = text }; result = if found then Ok tt else Err calls.NoEntry } ≡ rowed_by rack row
rowed_by_line rack None found text m =
    ap (λ (b : Bool). record { rack = record rack { text = text }; result = if b then Ok tt else Err calls.NoEntry }) m.0
    ∙ ap (λ t. record { rack = record rack { text = t }; result = Err calls.NoEntry }) m.1
rowed_by_line rack (Some row) found text m =
    ap (λ (b : Bool). record { rack = record rack { text = text }; result = if b then Ok tt else Err calls.NoEntry }) m.0
    ∙ ap (λ t. record { rack = record rack { text = t }; result = Ok tt }) m.1

pub rowed_is : (rack : EmbeddedRack) (number index : ℕ) (line : EmbeddedLine) (place : ℕ) (found : Bool) (text : List ℕ)
    → IsLine rack.lines number index line
    → MatchOption (row_of line place) ((found ≡ false) × (text ≡ [])) (λ row. (found ≡ true) × (text ≡ row))
    → record { rack = record rack { text = text }; result = if found then Ok tt else Err calls.NoEntry } ≡ rowed rack number place
rowed_is rack number index line place found text at m =
    rowed_by_line rack (row_of line place) found text m ∙ sym (called rack number index line (λ i l. rowed_by rack (row_of l place)) at)
