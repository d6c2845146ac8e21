-- helper
-- Examples of what a master sends to the line with masters 1 and 2 and slave 5, and of what is written.
use Rattle.std.specs.Prelude.{◌≡◌, ⊤, ℕ, List, [], ◌∷◌, codes, Some, None, option_map, refl}
use Rattle.std.specs.Fmt.{digits}
use Rattle.hex.proofs.OnLiterals.{hex_on_literals}
use Rattle.dp_slave.specs.declared.description.Device.{Device}
use Rattle.dp_slave.specs.declared.description.Device.TheVariants.{Counter, Mirror}
use Rattle.dp_slave.specs.SlaveRecord.{released}
use Rattle.dp_slave.specs.Fields.{acted}
use Rattle.dp_line.specs.Hearing.{heard}
use Rattle.dp_line.specs.Verdict.{verdict_of}
use Rattle.dp_line.specs.ReplyText.{reply_text}
use Rattle.dp_line.specs.Effects.{effect, slave_after, facts_of, outcome_of}
use Rattle.dp_line.specs.Steps.{step}
use Rattle.dp_line.specs.declared.event.Op.{Op}
use Rattle.dp_line.specs.declared.event.Op.TheVariants.{Input, Tick, Halt}
use Rattle.dp_line.specs.LineExamples.{fresh}
use Rattle.dp_audit.specs.Journal.{Journal, added, taken}
use Rattle.embedded_rack.specs.EmbeddedLines.{Stream, EmbeddedLine, Sent, sent, took, stepped, owned_line, show_line}

-- the definitions that are unfolded to compute a text
unfoldable text_on_literals : ⊤
unfolding hex_on_literals digits taken added step effect slave_after facts_of outcome_of heard verdict_of reply_text acted released
text_on_literals = tt

-- the line before any octets were sent
abbrev journal_1 : Journal
journal_1 = record { number = 1; opening = fresh; room = fresh.capacity; entries = []; state = record { world = fresh; last_walk = 0 } }

abbrev line_1 : EmbeddedLine
line_1 = record { journal = journal_1; streams = record { master = 1; held = [] } ∷ record { master = 2; held = [] } ∷ []; driven = [] }

abbrev text_of_sent : Sent → List ℕ
text_of_sent sending = sending.text

abbrev streams_of_sent : Sent → List Stream
streams_of_sent sending = sending.line.streams

-- a telegram with a bad end, and a request for the slave's FDL status, in one piece
pub bad_end_then_status :
    option_map text_of_sent (sent line_1 1 (0x68 ∷ 0x05 ∷ 0x05 ∷ 0x68 ∷ 0x05 ∷ 0x01 ∷ 0x5D ∷ 0x12 ∷ 0x34 ∷ 0xA8 ∷ 0x16 ∷ 0x10 ∷ 0x05 ∷ 0x01 ∷ 0x49 ∷ 0x4F ∷ 0x16 ∷ []))
    ≡ Some (codes "1: dropped BadEnd 11\n1: reply 100105000616 Status\n")
unfolding text_on_literals
bad_end_then_status = refl

-- a wrong head, dropped octet by octet; the last octet may start a frame
pub bad_head :
    option_map text_of_sent (sent line_1 1 (0x68 ∷ 0x05 ∷ 0x04 ∷ 0x68 ∷ []))
    ≡ Some (codes "1: dropped BadHead 1\n1: dropped NoStart 1\n1: dropped NoStart 1\n")
unfolding text_on_literals
bad_head = refl

pub bad_head_keeps_one :
    option_map streams_of_sent (sent line_1 1 (0x68 ∷ 0x05 ∷ 0x04 ∷ 0x68 ∷ []))
    ≡ Some (record { master = 1; held = 0x68 ∷ [] } ∷ record { master = 2; held = [] } ∷ [])
bad_head_keeps_one = refl

-- half of a request writes nothing, and the other half completes it
pub half_a_request : option_map text_of_sent (sent line_1 2 (0x10 ∷ 0x05 ∷ 0x02 ∷ [])) ≡ Some []
half_a_request = refl

pub other_half :
    option_map text_of_sent (sent (record line_1 { streams = record { master = 1; held = [] } ∷ record { master = 2; held = 0x10 ∷ 0x05 ∷ 0x02 ∷ [] } ∷ [] }) 2 (0x49 ∷ 0x50 ∷ 0x16 ∷ []))
    ≡ Some (codes "2: reply 100205000716 Status\n")
unfolding text_on_literals
other_half = refl

-- Sync to all slaves, from a master that holds no slave
pub broadcast_to_none :
    option_map text_of_sent (sent line_1 1 (0x68 ∷ 0x07 ∷ 0x07 ∷ 0x68 ∷ 0xFF ∷ 0x81 ∷ 0x46 ∷ 0x3A ∷ 0x3E ∷ 0x20 ∷ 0x00 ∷ 0x5E ∷ 0x16 ∷ []))
    ≡ Some (codes "1: spread\n")
unfolding text_on_literals
broadcast_to_none = refl

-- no master of the line
pub no_master_of_the_line : sent line_1 3 (0x33 ∷ []) ≡ None
no_master_of_the_line = refl

-- nobody holds the slave
pub nothing_owned : owned_line line_1 1 ≡ codes "owned\n"
nothing_owned = refl

pub slave_at_its_start : show_line line_1 5 ≡ codes "show 5 WaitPrm none in 0000 out 0000 wd off\n"
unfolding text_on_literals
slave_at_its_start = refl

pub no_slave_there : show_line line_1 6 ≡ codes "refused NoStation\n"
no_slave_there = refl

abbrev pub after_op : Op → EmbeddedLine
after_op op = (took line_1 op).line

-- the device sets the inputs, and they are shown
abbrev pub in_5_aa55 : Op
in_5_aa55 = Input 5 (record { items = 0xAA ∷ 0x55 ∷ [] })

pub inputs_set : text_of_sent (took line_1 in_5_aa55) ≡ codes "done\n"
unfolding text_on_literals
inputs_set = refl

pub inputs_shown : show_line (after_op in_5_aa55) 5 ≡ codes "show 5 WaitPrm none in aa55 out 0000 wd off\n"
unfolding text_on_literals
inputs_shown = refl

-- one octet for a slave with two octets of inputs
pub too_few_inputs : text_of_sent (took line_1 (Input 5 (record { items = 0xAA ∷ [] }))) ≡ codes "refused WrongLength\n"
unfolding text_on_literals
too_few_inputs = refl

-- time passes, and no watchdog runs
pub time_passes_on_a_fresh_line : text_of_sent (took line_1 (Tick 10)) ≡ codes "released\n"
unfolding text_on_literals
time_passes_on_a_fresh_line = refl

-- the halt, and after it all events are refused
pub halted_once : text_of_sent (took line_1 Halt) ≡ codes "released\n"
unfolding text_on_literals
halted_once = refl

pub halted_twice : text_of_sent (took (after_op Halt) Halt) ≡ codes "refused Halted\n"
unfolding text_on_literals
halted_twice = refl

-- a device updates the inputs of slave 5
abbrev fed_line : Device → EmbeddedLine
fed_line device = record line_1 { driven = (record { address = 5; device = device }) ∷ [] }

pub nothing_to_feed : text_of_sent (stepped line_1) ≡ codes "stepped 0\n"
unfolding text_on_literals
nothing_to_feed = refl

pub a_counter_steps : text_of_sent (stepped (fed_line Counter)) ≡ codes "stepped 1\n"
unfolding text_on_literals
a_counter_steps = refl

pub a_count_is_shown : show_line (stepped (fed_line Counter)).line 5 ≡ codes "show 5 WaitPrm none in 0001 out 0000 wd off\n"
unfolding text_on_literals
a_count_is_shown = refl

-- the outputs of a slave that nobody holds are zero
pub a_mirror_shows_outputs : show_line (stepped (record (after_op in_5_aa55) { driven = (record { address = 5; device = Mirror }) ∷ [] })).line 5 ≡ codes "show 5 WaitPrm none in 0000 out 0000 wd off\n"
unfolding text_on_literals
a_mirror_shows_outputs = refl

pub no_step_after_the_halt : text_of_sent (stepped (took (fed_line Counter) Halt).line) ≡ codes "stepped 0\n"
unfolding text_on_literals
no_step_after_the_halt = refl
