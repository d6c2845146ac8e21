-- promise
-- The capture of an audit text (own).
use Rattle.std.specs.Prelude.{codes, ℕ, ◌+◌, ◌-◌, ◌*◌, ◌^◌, min, false, List, [], ◌∷◌, ◌++◌, map, if◌then◌else◌, Option, Some, None, unwrap_or}
use Rattle.std.specs.Fmt.{decimal}
use Rattle.dp_line.specs.declared.event.Event.{Event}
use Rattle.dp_line.specs.declared.event.Event.TheVariants.{Request, Operator}
use Rattle.dp_line.specs.declared.event.Outcome.{Outcome}
use Rattle.dp_line.specs.declared.event.Outcome.TheVariants.{Reply}
use Rattle.dp_line.specs.World.{Description}
use Rattle.dp_line.specs.Steps.{step}
use Rattle.dp_text.specs.Words.{lines_of}
use Rattle.dp_audit.specs.Check.{Judged, bad, not_the_policy, right, is_accepted_header, judged_line, places_of_lines}
use Rattle.explain_events.specs.ExplainedEntries.{explained_entry_text}
use Rattle.explain_events.specs.EventContexts.{EventContextView}
use Rattle.explain_texts.specs.declared.choice.Choice.{Choice}
use Rattle.explain_texts.specs.Followed.{entry_rows}
use Rattle.explain_texts.specs.Known.{KnownView, first_known, known_after, outcome_reported}
use Rattle.rack_file.specs.Rack.{LineDescription, RackDescription}
use Rattle.capture_texts.specs.declared.packet.Direction.{Direction}
use Rattle.capture_texts.specs.declared.packet.Direction.TheVariants.{Inbound, Outbound, Unknown}
use Rattle.capture_texts.specs.Blocks.{Block, interface, packet, section}
use Rattle.rack_script.specs.Checks.{line_named}
use Rattle.capture_texts.specs.Comments.{comment_of}

-- the choice of every entry
abbrev pub every_entry : Choice
every_entry = record { from = None; to = None; slave = None; master = None; refused = false; faults = false; summary = false }

-- ---- the packets of an entry

-- the time in microseconds: 10 ms for each unit of the ticks before the entry, and a microsecond for each place. It stops at the largest number
-- of 64 bits
unfoldable pub microseconds : Option ℕ → ℕ → ℕ
microseconds time place = min (min (unwrap_or time 0 * 10000) (2 ^ 64 - 1) + place) (2 ^ 64 - 1)

-- a packet on an interface, at a time, with a comment
abbrev pub sent : ℕ → ℕ → List ℕ → Direction → List ℕ → Block
sent line time comment direction telegram =
    packet (record { interface = line; time = time; direction = direction; telegram = telegram; comment = comment })

abbrev pub reply_packets : ℕ → ℕ → List ℕ → Outcome → List Block
reply_packets line time comment (Reply reply rule) = sent line time comment Outbound reply.items ∷ []
reply_packets line time comment outcome = []

-- a request, and its reply at once if it has one; an event of the operator has no octets
abbrev pub packets_of : ℕ → ℕ → List ℕ → Event → Outcome → List Block
packets_of line time comment (Request master octets) outcome =
    sent line time comment Inbound octets.items ∷ reply_packets line time comment outcome
packets_of line time comment (Operator op) outcome = sent line time comment Unknown [] ∷ []

-- the rows of the explanation of an event that takes the next place of the line
unfoldable pub explained_rows : EventContextView → Event → List (List ℕ)
explained_rows context event =
    lines_of (explained_entry_text context (step context.world event).world (context.world.count + 1) event (outcome_reported context.world event))

-- the packets of an event that takes the next place of the line; the comment is made of the rows of its explanation
unfoldable pub entry_packets : ℕ → EventContextView → Event → List Block
entry_packets line context event =
    packets_of line (microseconds context.time (context.world.count + 1))
    (comment_of (context.world.count + 1) event (step context.world event).answer.outcome (explained_rows context event))
    event (step context.world event).answer.outcome

-- ---- the packets of a text

-- what follows a row: nothing if the row is wrong
abbrev pub if_right : {T : Type 0} → Judged → T → (Event → T) → T
if_right bad none others = none
if_right not_the_policy none others = none
if_right (right event) none others = others event

-- the packets of rows, up to the first wrong one
abbrev pub captured_rows : ℕ → KnownView → List (List ℕ) → List Block
captured_rows line known [] = []
captured_rows line known (row ∷ rows) =
    if_right (judged_line known.context.world row) [] (λ event. entry_packets line known.context event ++ captured_rows line (known_after known event) rows)

-- those of the entries of a text of these lines; the header comes first
abbrev pub captured_lines : ℕ → Description → List (List ℕ) → List Block
captured_lines number line lines = captured_rows number (first_known line (places_of_lines line lines)) (entry_rows line lines)

abbrev pub captured_text : ℕ → Description → List ℕ → List Block
captured_text number line text = captured_lines number line (lines_of text)

-- ---- the capture of a text on a rack

-- the comment of the section
abbrev pub time_comment : List ℕ
time_comment = codes "Times are not those of a clock: 10 ms for each unit of the ticks before an entry, and 1 us for each place."

-- the interface of a line
abbrev pub line_interface : LineDescription → Block
line_interface line = interface (codes "line " ++ decimal line.line.number)

-- the section, and an interface for each line of the rack, in its order
abbrev pub opening_blocks : List LineDescription → List Block
opening_blocks lines = section time_comment ∷ map line_interface lines

-- the number of the interface of the line with this header, from 0: the number of lines before the first one that accepts it
abbrev pub interface_among : List LineDescription → List ℕ → ℕ
interface_among [] header = 0
interface_among (line ∷ lines) header = if is_accepted_header line.line header then 0 else interface_among lines header + 1

-- that of the line that a text of these lines names
abbrev pub interface_named : List LineDescription → List (List ℕ) → ℕ
interface_named lines [] = 0
interface_named lines (header ∷ others) = interface_among lines header

abbrev pub captured_by_line : Option LineDescription → ℕ → List ℕ → List Block
captured_by_line None number text = []
captured_by_line (Some line) number text = captured_text number line.line text

-- the capture of an audit text on a rack: no packet if the text names no line
abbrev pub captured_on : RackDescription → List ℕ → List Block
captured_on rack text =
    opening_blocks rack.lines ++ captured_by_line (line_named rack.lines (lines_of text)) (interface_named rack.lines (lines_of text)) text
