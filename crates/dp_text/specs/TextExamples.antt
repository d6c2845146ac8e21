-- helper
-- Texts, written and read.
use Rattle.std.specs.Prelude.{◌≡◌, ⊤, true, false, [], ◌∷◌, codes, Some, None, refl}
use Rattle.std.specs.Fmt.{digits}
use Rattle.hex.proofs.OnLiterals.{hex_on_literals}
use Rattle.dp_telegram.specs.declared.fault.FrameFault.TheVariants as faults
use Rattle.dp_sap.specs.declared.state.State.TheVariants as states
use Rattle.dp_responder.specs.declared.rule.Rule.TheVariants as rules
use Rattle.dp_slave.specs.SlaveRecord.{starting_slave}
use Rattle.dp_slave.specs.View.{view_of}
use Rattle.dp_line.specs.declared.event.Event.TheVariants.{Request, Operator}
use Rattle.dp_line.specs.declared.event.Op.TheVariants.{Input, Diag, Busy, Tick, Halt}
use Rattle.dp_line.specs.declared.event.Outcome.TheVariants.{Reply, Silence, Spread, Released, Done, Refused}
use Rattle.dp_line.specs.declared.fault.OperatorFault.TheVariants as refusals
use Rattle.dp_line.specs.LineExamples.{slave_5}
use Rattle.dp_text.specs.declared.ops.HexCase.TheVariants.{Lower, Either}
use Rattle.dp_text.specs.Numbers.{octet_number}
use Rattle.dp_text.specs.Words.{lines_of, words_of}
use Rattle.dp_text.specs.HexWords.{octets_of_words}
use Rattle.dp_text.specs.Texts.{event_text, facts_text, answer_text, outcome_line, dropped_text, owned_text, show_text}
use Rattle.dp_text.specs.Events.{op_of_words, event_of}

-- the definitions that compute a text
unfoldable pub text_on_literals : ⊤
unfolding hex_on_literals digits
text_on_literals = tt

-- ---- written

pub a_reply : answer_text 1 (Reply (record { items = 0x10 ∷ 0x01 ∷ 0x05 ∷ 0x00 ∷ 0x06 ∷ 0x16 ∷ [] }) rules.Status) ≡ codes "1: reply 100105000616 Status\n"
unfolding text_on_literals
a_reply = refl

pub a_silence : answer_text 126 (Silence rules.ForeignSender) ≡ codes "126: silence ForeignSender\n"
unfolding text_on_literals
a_silence = refl

pub done : answer_text 2 Done ≡ codes "2: done\n"
unfolding text_on_literals
done = refl

pub a_spread_to_none : answer_text 2 (Spread (record { items = [] })) ≡ codes "2: spread\n"
unfolding text_on_literals
a_spread_to_none = refl

pub a_spread_to_one : answer_text 1 (Spread (record { items = (5, rules.NotSelected) ∷ [] })) ≡ codes "1: spread 5:NotSelected\n"
unfolding text_on_literals
a_spread_to_one = refl

pub a_spread_to_two : answer_text 1 (Spread (record { items = (7, rules.NotActive) ∷ (126, rules.Done) ∷ [] })) ≡ codes "1: spread 7:NotActive 126:Done\n"
unfolding text_on_literals
a_spread_to_two = refl

pub nobody_released : outcome_line (Released (record { items = [] })) ≡ codes "released\n"
nobody_released = refl

pub released_slaves : outcome_line (Released (record { items = 5 ∷ 6 ∷ 8 ∷ [] })) ≡ codes "released 5 6 8\n"
unfolding text_on_literals
released_slaves = refl

pub a_refusal : outcome_line (Refused refusals.NoStation) ≡ codes "refused NoStation\n"
a_refusal = refl

pub dropped_octets : dropped_text 2 faults.BadEnd 11 ≡ codes "2: dropped BadEnd 11\n"
unfolding text_on_literals
dropped_octets = refl

pub owned_slaves : owned_text (5 ∷ 126 ∷ []) ≡ codes "owned 5 126\n"
unfolding text_on_literals
owned_slaves = refl

pub no_owned_slave : owned_text [] ≡ codes "owned\n"
no_owned_slave = refl

pub a_slave_at_its_start : show_text (Some (view_of (starting_slave (1 ∷ []) slave_5))) ≡ codes "show 5 WaitPrm none in 0000 out 0000 wd off\n"
unfolding text_on_literals
a_slave_at_its_start = refl

pub a_slave_in_use :
    show_text (Some (record (view_of (starting_slave (1 ∷ []) slave_5)) {
      state = states.DataExch;
      holder = Some 1;
      inputs = record { items = 0xAA ∷ 0x55 ∷ [] };
      outputs = record { items = [] };
      left = Some 10;
    }))
    ≡ codes "show 5 DataExch 1 in aa55 out - wd 10\n"
unfolding text_on_literals
a_slave_in_use = refl

pub no_slave : show_text None ≡ codes "refused NoStation\n"
no_slave = refl

pub no_facts : facts_text None ≡ codes "none"
no_facts = refl

pub facts_of_a_free_slave : facts_text (Some (states.WaitPrm, None)) ≡ codes "WaitPrm none"
facts_of_a_free_slave = refl

pub facts_of_a_held_slave : facts_text (Some (states.DataExch, Some 17)) ≡ codes "DataExch 17"
unfolding text_on_literals
facts_of_a_held_slave = refl

pub a_request : event_text (Request 1 (record { items = 0xDC ∷ 0x02 ∷ 0x01 ∷ [] })) ≡ codes "req 1 dc0201"
unfolding text_on_literals
a_request = refl

pub an_empty_request : event_text (Request 0 (record { items = [] })) ≡ codes "req 0 -"
unfolding text_on_literals
an_empty_request = refl

pub inputs : event_text (Operator (Input 5 (record { items = 0xAA ∷ 0x55 ∷ [] }))) ≡ codes "in 5 aa55"
unfolding text_on_literals
inputs = refl

pub no_inputs : event_text (Operator (Input 5 (record { items = [] }))) ≡ codes "in 5 -"
unfolding text_on_literals
no_inputs = refl

pub a_diagnosis : event_text (Operator (Diag 5 true false false (record { items = 3 ∷ 1 ∷ 0xFF ∷ [] }))) ≡ codes "diag 5 e 0301ff"
unfolding text_on_literals
a_diagnosis = refl

pub two_flags : event_text (Operator (Diag 5 false true true (record { items = [] }))) ≡ codes "diag 5 so -"
unfolding text_on_literals
two_flags = refl

pub no_flag : event_text (Operator (Diag 5 false false false (record { items = [] }))) ≡ codes "diag 5 - -"
unfolding text_on_literals
no_flag = refl

pub a_busy_point : event_text (Operator (Busy 5 (Some 61) true)) ≡ codes "busy 5 61 on"
unfolding text_on_literals
a_busy_point = refl

pub the_default_point : event_text (Operator (Busy 5 None false)) ≡ codes "busy 5 default off"
unfolding text_on_literals
the_default_point = refl

pub a_tick : event_text (Operator (Tick 10)) ≡ codes "tick 10"
unfolding text_on_literals
a_tick = refl

pub a_halt : event_text (Operator Halt) ≡ codes "halt"
a_halt = refl

-- ---- read

pub the_least_number : octet_number (codes "0") ≡ Some 0
the_least_number = refl

pub the_greatest_number : octet_number (codes "255") ≡ Some 255
the_greatest_number = refl

pub too_great : octet_number (codes "256") ≡ None
too_great = refl

pub a_leading_zero : octet_number (codes "05") ≡ None
a_leading_zero = refl

pub a_sign : octet_number (codes "+5") ≡ None
a_sign = refl

pub no_digit : octet_number [] ≡ None
no_digit = refl

pub what_follows_the_last_lf : lines_of (codes "line 2\n") ≡ codes "line 2" ∷ [] ∷ []
what_follows_the_last_lf = refl

pub a_double_space : words_of (codes "m  1") ≡ codes "m" ∷ [] ∷ codes "1" ∷ []
a_double_space = refl

pub words_of_octets : octets_of_words (codes "dC" ∷ codes "0201" ∷ []) ≡ Some (0xDC ∷ 0x02 ∷ 0x01 ∷ [])
unfolding text_on_literals
words_of_octets = refl

pub half_a_pair : octets_of_words (codes "DC" ∷ codes "020" ∷ []) ≡ None
unfolding text_on_literals
half_a_pair = refl

pub a_request_read : event_of (codes "req 1 dc0201") ≡ Some (Request 1 (record { items = 0xDC ∷ 0x02 ∷ 0x01 ∷ [] }))
unfolding text_on_literals
a_request_read = refl

pub a_request_in_upper_case : event_of (codes "req 1 DC0201") ≡ None
unfolding text_on_literals
a_request_in_upper_case = refl

pub a_request_and_more : event_of (codes "req 1 dc0201 ") ≡ None
unfolding text_on_literals
a_request_and_more = refl

pub inputs_read : event_of (codes "in 5 aa55") ≡ Some (Operator (Input 5 (record { items = 0xAA ∷ 0x55 ∷ [] })))
unfolding text_on_literals
inputs_read = refl

pub no_inputs_read : event_of (codes "in 5 -") ≡ Some (Operator (Input 5 (record { items = [] })))
unfolding text_on_literals
no_inputs_read = refl

pub a_diagnosis_read : event_of (codes "diag 5 e 0301ff") ≡ Some (Operator (Diag 5 true false false (record { items = 3 ∷ 1 ∷ 0xFF ∷ [] })))
unfolding text_on_literals
a_diagnosis_read = refl

pub two_flags_read : event_of (codes "diag 5 so -") ≡ Some (Operator (Diag 5 false true true (record { items = [] })))
unfolding text_on_literals
two_flags_read = refl

pub no_flag_read : event_of (codes "diag 5 - -") ≡ Some (Operator (Diag 5 false false false (record { items = [] })))
unfolding text_on_literals
no_flag_read = refl

pub a_busy_point_read : event_of (codes "busy 5 61 on") ≡ Some (Operator (Busy 5 (Some 61) true))
unfolding text_on_literals
a_busy_point_read = refl

pub the_default_point_read : event_of (codes "busy 5 default off") ≡ Some (Operator (Busy 5 None false))
unfolding text_on_literals
the_default_point_read = refl

pub a_tick_read : event_of (codes "tick 10") ≡ Some (Operator (Tick 10))
unfolding text_on_literals
a_tick_read = refl

pub a_halt_read : event_of (codes "halt") ≡ Some (Operator Halt)
unfolding text_on_literals
a_halt_read = refl

pub flags_in_another_order : event_of (codes "diag 5 se -") ≡ None
unfolding text_on_literals
flags_in_another_order = refl

pub a_flag_twice : event_of (codes "diag 5 ee -") ≡ None
unfolding text_on_literals
a_flag_twice = refl

pub an_empty_word_for_flags : event_of (codes "diag 5  -") ≡ None
unfolding text_on_literals
an_empty_word_for_flags = refl

pub a_point_too_great : event_of (codes "busy 5 256 on") ≡ None
unfolding text_on_literals
a_point_too_great = refl

pub neither_on_nor_off : event_of (codes "busy 5 61 yes") ≡ None
unfolding text_on_literals
neither_on_nor_off = refl

pub the_longest_time : event_of (codes "tick 4294967295") ≡ Some (Operator (Tick 4294967295))
unfolding text_on_literals
the_longest_time = refl

pub too_long_a_time : event_of (codes "tick 4294967296") ≡ None
unfolding text_on_literals
too_long_a_time = refl

pub a_halt_and_a_space : event_of (codes "halt ") ≡ None
unfolding text_on_literals
a_halt_and_a_space = refl

pub inputs_in_upper_case : event_of (codes "in 5 AA") ≡ None
unfolding text_on_literals
inputs_in_upper_case = refl

pub only_lower_case : op_of_words Lower (codes "in" ∷ codes "5" ∷ codes "Aa" ∷ []) ≡ None
unfolding text_on_literals
only_lower_case = refl

pub inputs_in_either_case : op_of_words Either (codes "in" ∷ codes "5" ∷ codes "Aa" ∷ []) ≡ Some (Input 5 (record { items = 0xAA ∷ [] }))
unfolding text_on_literals
inputs_in_either_case = refl
