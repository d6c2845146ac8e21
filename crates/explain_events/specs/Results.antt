-- detail
-- The result of an event, in its result rows (own).
use Rattle.std.specs.Prelude.{codes, ℕ, Bool, true, false, if◌then◌else◌, List, [], ◌∷◌, ◌++◌, Option, Some, None}
use Rattle.std.specs.Option.{option_and_then}
use Rattle.std.specs.List.{flat_map}
use Rattle.std.specs.Fmt.{decimal}
use Rattle.dp_telegram.specs.declared.frame.Frame.{Frame}
use Rattle.dp_telegram.specs.declared.frame.Telegram.{Telegram}
use Rattle.dp_telegram.specs.declared.access.Parts.{Parts}
use Rattle.dp_telegram.specs.FrameText.{frame_of}
use Rattle.dp_telegram.specs.Access.{address_of, parts_of}
use Rattle.dp_responder.specs.declared.rule.Rule.{Rule}
use Rattle.dp_responder.specs.declared.rule.Rule.TheVariants as rules
use Rattle.dp_slave.specs.declared.description.SlaveSpec.{SlaveSpec}
use Rattle.dp_slave.specs.declared.view.SlaveView.{SlaveView}
use Rattle.dp_line.specs.declared.event.Event.{Event}
use Rattle.dp_line.specs.declared.event.Event.TheVariants.{Request, Operator}
use Rattle.dp_line.specs.declared.event.Op.{Op}
use Rattle.dp_line.specs.declared.event.Outcome.{Outcome}
use Rattle.dp_line.specs.declared.event.Outcome.TheVariants.{Reply, Silence, Spread, Released, Done, Refused}
use Rattle.dp_line.specs.Names.{operator_fault_name}
use Rattle.dp_line.specs.World.{World, described_at, is_last_place}
use Rattle.dp_line.specs.Events.{is_halt}
use Rattle.dp_line.specs.Hearing.{telegram_of_frame}
use Rattle.dp_line.specs.Verdict.{concerns_a_slave}
use Rattle.explain_events.specs.declared.notes.Noted.{Noted}
use Rattle.explain_events.specs.declared.releases.Release.{Release}
use Rattle.explain_events.specs.declared.way.Answered.TheVariants as ways
use Rattle.explain_events.specs.Words.{at_left, numbers_words, time_words}
use Rattle.explain_events.specs.Notes.{note_of}
use Rattle.explain_events.specs.OpResults.{expired_at}
use Rattle.explain_events.specs.Releases.{release_of}
use Rattle.explain_events.specs.EventContexts.{EventContextView, AskedView}
use Rattle.explain_events.specs.Sentences.{line_text, slave_text}
use Rattle.explain_events.specs.Shown.{shown_at}
use Rattle.explain_events.specs.Ways.{first_fault, some_selected, way_name, way_of_pair}

-- ---- the answer of one slave

-- the sentence of the slave; empty if the line has no such slave
abbrev pub reported_where_known : AskedView → Option Noted → Option Release → Bool → Rule → Option SlaveSpec → Option SlaveView → List ℕ
reported_where_known asked noted release silent rule None slave = []
reported_where_known asked noted release silent rule (Some description) None = []
reported_where_known asked noted release silent rule (Some description) (Some slave) =
    slave_text silent (record {
      master = asked.master;
      octets = asked.octets;
      telegram = asked.telegram;
      parts = asked.parts;
      description = description;
      slave = slave;
      noted = noted;
      release = release;
    }) rule

abbrev pub reported_of_slave : EventContextView → AskedView → ℕ → Bool → Rule → List ℕ
reported_of_slave context asked address silent rule =
    reported_where_known asked (note_of context.notes address asked.master) (release_of context.releases address) silent rule
    (described_at context.description.slaves address) (shown_at context.world address)

-- ---- the answer to a request to one slave

abbrev pub reported_of_parts : EventContextView → ℕ → List ℕ → Bool → Rule → Telegram → Option Parts → List ℕ
reported_of_parts context master octets silent rule telegram None = []
reported_of_parts context master octets silent rule telegram (Some parts) =
    reported_of_slave context (record { master = master; octets = octets; telegram = telegram; parts = parts }) (address_of telegram.da) silent rule

abbrev pub reported_of_telegram : EventContextView → ℕ → List ℕ → Bool → Rule → Option Telegram → List ℕ
reported_of_telegram context master octets silent rule None = []
reported_of_telegram context master octets silent rule (Some telegram) = reported_of_parts context master octets silent rule telegram (parts_of telegram)

-- by a rule that concerns the line, or by one that concerns a slave
abbrev pub reported_of_one : EventContextView → ℕ → List ℕ → Option Frame → Bool → Rule → List ℕ
reported_of_one context master octets frame silent rule =
    if concerns_a_slave rule then reported_of_telegram context master octets silent rule (option_and_then telegram_of_frame frame)
    else line_text context.description.masters master frame rule

abbrev pub result_row : List ℕ → List ℕ
result_row text = codes "       result      " ++ text ++ codes "\n"

-- ---- the answer to a request to all slaves

-- each slave has its own row, which begins with its address
abbrev pub pair_row : EventContextView → AskedView → ℕ × Rule → List ℕ
pair_row context asked pair =
    codes "       " ++ at_left 12 (codes "slave " ++ decimal pair.0) ++ reported_of_slave context asked pair.0 true pair.1 ++ codes "\n"

abbrev pub pairs_rows : EventContextView → ℕ → List ℕ → List (ℕ × Rule) → Telegram → Option Parts → List ℕ
pairs_rows context master octets pairs telegram None = []
pairs_rows context master octets pairs telegram (Some parts) =
    flat_map (pair_row context (record { master = master; octets = octets; telegram = telegram; parts = parts })) pairs

abbrev pub spread_rows : EventContextView → ℕ → List ℕ → List (ℕ × Rule) → Option Telegram → List ℕ
spread_rows context master octets pairs None = []
spread_rows context master octets pairs (Some telegram) = pairs_rows context master octets pairs telegram (parts_of telegram)

-- the words about the first answer that is a fault of the bus, if one is
abbrev pub fault_at : EventContextView → List ℕ → Option (ℕ × Rule) → List ℕ
fault_at context octets None = []
fault_at context octets (Some pair) = codes "; " ++ way_name (way_of_pair context octets true pair) ++ codes " at slave " ++ decimal pair.0

-- the words about the first fault of the bus among the answers: that no slave is selected, or the way of one slave
abbrev pub fault_in_spread : EventContextView → List ℕ → List (ℕ × Rule) → List ℕ
fault_in_spread context octets pairs =
    if some_selected pairs then fault_at context octets (first_fault context octets pairs) else codes "; " ++ way_name ways.NoneSelected

abbrev pub spread_text : EventContextView → ℕ → List ℕ → List (ℕ × Rule) → List ℕ
spread_text context master octets [] = codes "spread: master " ++ decimal master ++ codes " holds no slave, so the command reached none."
spread_text context master octets (pair ∷ pairs) =
    codes "spread over the slaves of master " ++ decimal master ++ fault_in_spread context octets (pair ∷ pairs) ++ codes ":"

-- ---- a request

abbrev pub request_rows : EventContextView → ℕ → List ℕ → Option Frame → Outcome → List ℕ
request_rows context master octets frame (Reply reply rule) = result_row (reported_of_one context master octets frame false rule)
request_rows context master octets frame (Silence rule) = result_row (reported_of_one context master octets frame true rule)
request_rows context master octets frame Done = result_row (reported_of_one context master octets frame true rules.Done)
request_rows context master octets frame (Spread pairs) =
    result_row (spread_text context master octets pairs.items) ++ spread_rows context master octets pairs.items (option_and_then telegram_of_frame frame)
request_rows context master octets frame (Released addresses) = []
request_rows context master octets frame (Refused fault) = []

-- ---- an event of the operator

-- the master that held a slave, by which its watchdog was not restarted
abbrev pub not_restarted_words : Option ℕ → List ℕ
not_restarted_words None = []
not_restarted_words (Some master) = codes ": master " ++ decimal master ++ codes " sent nothing that restarts it"

-- the full time of a watchdog that ran out, in units of 10 ms
abbrev pub watchdog_words : Option ℕ → Option ℕ → List ℕ
watchdog_words holder None = []
watchdog_words holder (Some units) = codes " (its watchdog of " ++ time_words units ++ codes " ran out" ++ not_restarted_words holder ++ codes ")"

-- a slave that a tick released
abbrev pub expired_words : World → ℕ → List ℕ
expired_words world address = decimal address ++ watchdog_words (expired_at world address).holder (expired_at world address).watchdog

abbrev pub expired_behind : World → ℕ → List ℕ
expired_behind world address = codes ", " ++ expired_words world address

abbrev pub tick_text : World → List ℕ → List ℕ
tick_text world [] = codes "no watchdog ran out."
tick_text world (address ∷ addresses) = codes "released: " ++ expired_words world address ++ flat_map (expired_behind world) addresses ++ codes "."

-- the line halted, because of its journal if that has at most the place of the halt left
abbrev pub halted_words : Bool → List ℕ
halted_words true = codes "halted, the journal is full; "
halted_words false = codes "halted; "

abbrev pub halt_text : Bool → List ℕ → List ℕ
halt_text full [] = halted_words full ++ codes "nobody held a slave."
halt_text full (address ∷ addresses) = halted_words full ++ codes "released: " ++ numbers_words (address ∷ addresses) ++ codes "."

abbrev pub released_text : World → Op → List ℕ → List ℕ
released_text world op addresses = if is_halt (Operator op) then halt_text (is_last_place world) addresses else tick_text world addresses

abbrev pub op_text : World → Op → Outcome → List ℕ
op_text world op (Released addresses) = released_text world op addresses.items
op_text world op Done = codes "done."
op_text world op (Refused fault) = codes "refused: " ++ operator_fault_name fault ++ codes "."
op_text world op outcome = []

-- ---- any event

abbrev pub result_rows : EventContextView → Event → Outcome → List ℕ
result_rows context (Request master octets) outcome = request_rows context master octets.items (frame_of octets.items) outcome
result_rows context (Operator op) outcome = result_row (op_text context.world op outcome)
