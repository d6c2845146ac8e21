-- detail
-- The first row of an entry: its place, the sender and the receiver, the kind of the event, and the time before it (own).
use Rattle.std.specs.Prelude.{codes, ℕ, ◌==◌, if◌then◌else◌, Bool, true, false, List, [], ◌++◌, Option, Some, None}
use Rattle.std.specs.Fmt.{decimal}
use Rattle.dp_telegram.specs.declared.frame.Frame.{Frame}
use Rattle.dp_telegram.specs.declared.frame.Frame.TheVariants as frames
use Rattle.dp_telegram.specs.FrameText.{frame_of}
use Rattle.dp_telegram.specs.Access.{address_of, global_address}
use Rattle.dp_line.specs.declared.event.Event.{Event}
use Rattle.dp_line.specs.declared.event.Event.TheVariants.{Request, Operator}
use Rattle.dp_line.specs.declared.event.Op.{Op}
use Rattle.dp_line.specs.declared.event.Op.TheVariants.{Input, Diag, Busy, Tick, Halt}
use Rattle.dp_line.specs.Events.{address_of_op}
use Rattle.explain_events.specs.declared.sender_and_receiver.Receiver.{Receiver}
use Rattle.explain_events.specs.declared.sender_and_receiver.Receiver.TheVariants.{Slave, AllSlaves, Station, Nobody}
use Rattle.explain_events.specs.declared.sender_and_receiver.SenderAndReceiver.{SenderAndReceiver}
use Rattle.explain_events.specs.declared.sender_and_receiver.SenderAndReceiver.TheVariants as senders
use Rattle.explain_octets.specs.Kinds.{kind_text}
use Rattle.explain_events.specs.Words.{at_left, at_right, counted_words, octets_words, point_words, time_words}

-- ---- the sender and the receiver

-- the receiver of a frame: for a telegram the station of its DA, which is the slave of a request, or all slaves; for a token a station;
-- for a short acknowledgement nobody (IEC 61158-4-3, address octets)
abbrev pub receiver_of_frame : Option Frame → Receiver
receiver_of_frame None = Nobody
receiver_of_frame (Some (frames.Token da sa)) = Station (address_of da)
receiver_of_frame (Some frames.Ack) = Nobody
receiver_of_frame (Some (frames.Telegram telegram)) =
    if address_of telegram.da == global_address then AllSlaves else Slave (address_of telegram.da)

abbrev pub sender_and_receiver_of : Event → SenderAndReceiver
sender_and_receiver_of (Request master octets) = senders.Master master (receiver_of_frame (frame_of octets.items))
sender_and_receiver_of (Operator op) = senders.Operator (address_of_op op)

abbrev pub receiver_text : Receiver → List ℕ
receiver_text (Slave address) = codes "slave " ++ decimal address
receiver_text AllSlaves = codes "all slaves"
receiver_text (Station address) = codes "station " ++ decimal address
receiver_text Nobody = codes "nobody"

abbrev pub sender_and_receiver_text : SenderAndReceiver → List ℕ
sender_and_receiver_text (senders.Master master receiver) = codes "master " ++ decimal master ++ codes " -> " ++ receiver_text receiver
sender_and_receiver_text (senders.Operator None) = codes "operator -> line"
sender_and_receiver_text (senders.Operator (Some address)) = codes "operator -> slave " ++ decimal address

-- ---- the kind of the event

abbrev pub bit_text : Bool → List ℕ
bit_text true = codes "1"
bit_text false = codes "0"

abbrev pub busy_words : Bool → List ℕ
busy_words true = codes " busy"
busy_words false = codes " no longer busy"

abbrev pub flags_words : Bool → Bool → Bool → List ℕ
flags_words ext stat overflow = codes "Ext_Diag " ++ bit_text ext ++ codes ", Stat_Diag " ++ bit_text stat ++ codes ", Ext_Diag_Overflow " ++ bit_text overflow

-- an event of the operator
abbrev pub op_kind_text : Op → List ℕ
op_kind_text (Input address octets) = codes "inputs " ++ octets_words octets.items
op_kind_text (Diag address ext stat overflow octets) =
    codes "diagnosis " ++ flags_words ext stat overflow ++ codes "; extended " ++ octets_words octets.items
op_kind_text (Busy address point on) = point_words point ++ busy_words on
op_kind_text (Tick units) = counted_words units (codes "unit") (codes "units") ++ codes " of time, " ++ time_words units
op_kind_text Halt = codes "halt"

abbrev pub event_kind_text : Event → List ℕ
event_kind_text (Request master octets) = kind_text octets.items
event_kind_text (Operator op) = op_kind_text op

-- ---- the row

-- the time that has passed before the event, in units of 10 ms; nothing before the first tick
abbrev pub moment_words : Option ℕ → List ℕ
moment_words None = []
moment_words (Some units) = codes "  at " ++ time_words units

-- the place has the first five columns; the sender and the receiver have 26 columns after two spaces
abbrev pub front_text : ℕ → Event → List ℕ
front_text place event = at_right 5 (decimal place) ++ codes "  " ++ at_left 26 (sender_and_receiver_text (sender_and_receiver_of event))

abbrev pub head_text : Option ℕ → ℕ → Event → List ℕ
head_text time place event = front_text place event ++ event_kind_text event ++ moment_words time ++ codes "\n"
