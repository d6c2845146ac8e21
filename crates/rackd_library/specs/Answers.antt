-- detail
-- What C receives for a call (own).
use Rattle.std.specs.Prelude.{ℕ, Bool, nat_lt, if◌then◌else◌, List, [], ◌++◌, length, drop, Option, Some, None, unwrap_or, Result, Ok, Err}
use Rattle.dp_telegram.specs.FrameText.{fault_code}
use Rattle.dp_responder.specs.Rules.{rule_code}
use Rattle.dp_line.specs.declared.event.Outcome.{Outcome}
use Rattle.dp_line.specs.declared.event.Outcome.TheVariants as outcomes
use Rattle.dp_line.specs.declared.event.Step.{Step}
use Rattle.rack_file.specs.Codes.{rack_fault_code}
use Rattle.rack_file.specs.declared.fault.RackFault.{RackFault}
use Rattle.rack_file.specs.Rack.{RackDescription}
use Rattle.embedded_rack.specs.Codes.{call_fault_code}
use Rattle.embedded_rack.specs.RackCalls.{EmbeddedRack, Called, Opens}
use Rattle.embedded_rack.specs.declared.call_fault.CallFault.{CallFault}
use Rattle.embedded_rack.specs.declared.taken_piece.TakenPiece.{TakenPiece}
use Rattle.embedded_rack.specs.declared.taken_piece.TakenPiece.TheVariants as takes
use Rattle.rackd_library.specs.declared.answer.Answer.{Answer}

-- the number of a call: 0, or that of its fault
abbrev pub done_number : {T : Type 0} → Result T CallFault → ℕ
done_number (Ok done) = 0
done_number (Err fault) = call_fault_code fault

-- the octets of the reply of an outcome
abbrev pub reply_octets : Outcome → List ℕ
reply_octets (outcomes.Reply octets rule) = octets.items
reply_octets outcome = []

-- the number of the rule of an outcome; 0 if it has none
abbrev pub rule_number : Outcome → ℕ
rule_number (outcomes.Reply octets rule) = rule_code rule
rule_number (outcomes.Silence rule) = rule_code rule
rule_number outcome = 0

-- a place in the journal; 0 for none
abbrev pub place_number : Option ℕ → ℕ
place_number place = unwrap_or place 0

abbrev pub answer_of_step : Step → Answer
answer_of_step step = record { done = 0; count = length (reply_octets step.outcome); rule = rule_number step.outcome; place = place_number step.place }

abbrev pub refused_answer : ℕ → Answer
refused_answer number = record { done = number; count = 0; rule = 0; place = 0 }

-- a telegram was taken, or refused
abbrev pub answer_of_result : Step → Result (Unit {0}) CallFault → Answer
answer_of_result step (Ok done) = answer_of_step step
answer_of_result step (Err fault) = refused_answer (call_fault_code fault)

abbrev pub answer_of : Called (Unit {0}) → Answer
answer_of called = answer_of_result called.rack.answer called.result

-- the octets that are copied of an answer: those of its reply, none after a fault
abbrev pub replied_by_result : Step → Result (Unit {0}) CallFault → List ℕ
replied_by_result step (Ok done) = reply_octets step.outcome
replied_by_result step (Err fault) = []

abbrev pub replied : Called (Unit {0}) → List ℕ
replied called = replied_by_result called.rack.answer called.result

-- octets in front of what a room had
abbrev pub written_over : List ℕ → List ℕ → List ℕ
written_over octets room = octets ++ drop (length octets) room

-- the number of a piece of a stream: 0 if there is none yet, 255 for a frame, else the reason why octets are dropped
abbrev pub piece_number : Option TakenPiece → ℕ
piece_number None = 0
piece_number (Some takes.Frame) = 255
piece_number (Some (takes.Dropped fault count)) = fault_code fault

-- the answer of a piece: that of a frame, or the number of octets that are dropped
abbrev pub answer_of_piece : Step → Option TakenPiece → Answer
answer_of_piece step None = refused_answer 0
answer_of_piece step (Some takes.Frame) = answer_of_step step
answer_of_piece step (Some (takes.Dropped fault count)) = record { done = 0; count = count; rule = 0; place = 0 }

abbrev pub next_answer_by : Step → Result (Option TakenPiece) CallFault → Answer
next_answer_by step (Ok piece) = answer_of_piece step piece
next_answer_by step (Err fault) = refused_answer (call_fault_code fault)

abbrev pub next_answer : Called (Option TakenPiece) → Answer
next_answer called = next_answer_by called.rack.answer called.result

abbrev pub next_number_by : Result (Option TakenPiece) CallFault → ℕ
next_number_by (Ok piece) = piece_number piece
next_number_by (Err fault) = 0

abbrev pub next_number : Called (Option TakenPiece) → ℕ
next_number called = next_number_by called.result

-- only a frame has a reply
abbrev pub next_reply_by : Step → Result (Option TakenPiece) CallFault → List ℕ
next_reply_by step (Ok (Some takes.Frame)) = reply_octets step.outcome
next_reply_by step other = []

abbrev pub next_reply : Called (Option TakenPiece) → List ℕ
next_reply called = next_reply_by called.rack.answer called.result

-- a text is copied if there is room for all of it
abbrev pub short_room : ℕ
short_room = 11

abbrev pub copying_number : List ℕ → List ℕ → ℕ
copying_number text room = if nat_lt (length room) (length text) then short_room else 0

abbrev pub copied : List ℕ → List ℕ → List ℕ
copied text room = if nat_lt (length room) (length text) then room else written_over text room

-- a call that gives a text: it is copied if the call is done
abbrev pub text_number_by : List ℕ → List ℕ → Result (Unit {0}) CallFault → ℕ
text_number_by text room (Ok done) = copying_number text room
text_number_by text room (Err fault) = call_fault_code fault

abbrev pub text_number : Called (Unit {0}) → List ℕ → ℕ
text_number called room = text_number_by called.rack.text room called.result

abbrev pub text_count_by : List ℕ → Result (Unit {0}) CallFault → ℕ
text_count_by text (Ok done) = length text
text_count_by text (Err fault) = 0

abbrev pub text_count : Called (Unit {0}) → ℕ
text_count called = text_count_by called.rack.text called.result

abbrev pub text_room_by : List ℕ → List ℕ → Result (Unit {0}) CallFault → List ℕ
text_room_by text room (Ok done) = copied text room
text_room_by text room (Err fault) = room

abbrev pub text_room : Called (Unit {0}) → List ℕ → List ℕ
text_room called room = text_room_by called.rack.text room called.result

-- a number that a call gives; 0 after a fault
abbrev pub given_number : Result ℕ CallFault → ℕ
given_number (Ok number) = number
given_number (Err fault) = 0

-- the number of an opening that memory suffices for: 0, or the fault of the rack text
abbrev pub opening_number : Result RackDescription RackFault → ℕ
opening_number (Ok rack) = 0
opening_number (Err fault) = rack_fault_code fault

-- the rack of a handle that was opened is the one that the text describes, at its start
abbrev pub IsOpenedAs : Bool → Result RackDescription RackFault → Option EmbeddedRack → Type 0
IsOpenedAs endless text None = ⊥
IsOpenedAs endless text (Some rack) = Opens endless text rack
