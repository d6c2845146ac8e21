-- helper
-- Examples of what becomes of telegrams.
use Rattle.std.specs.Prelude.{◌≡◌, codes, ℕ, true, false, List, [], ◌∷◌, Some, None, refl}
use Rattle.cable_faults.specs.declared.cable.Cable.{Cable}
use Rattle.cable_faults.specs.declared.chance.Chance.{Chance}
use Rattle.cable_faults.specs.declared.random_words.Draw.{Draw}
use Rattle.cable_faults.specs.declared.treatment.Treatment.TheVariants.{Passed, Withheld, Lost, Spoilt, Cut, Late}
use Rattle.cable_faults.specs.declared.options.Covered.TheVariants.{Replies}
use Rattle.cable_faults.specs.declared.options.Direction.TheVariants.{Request, Reply}
use Rattle.cable_faults.specs.declared.options.Options.{Options}
use Rattle.cable_faults.specs.declared.order.Line.TheVariants.{Off, Clear, Faults}
use Rattle.cable_faults.specs.declared.order.Order.{Order}
use Rattle.cable_faults.specs.declared.order.OrderKind.{OrderKind}
use Rattle.cable_faults.specs.declared.order.OrderKind.TheVariants as ordered
use Rattle.cable_faults.specs.Chances.{first_random_words, hits, word_of}
use Rattle.cable_faults.specs.Decisions.{decision_of, waiting_after}
use Rattle.cable_faults.specs.Treatments.{changed, cut_count, sent_of, spoilt_treatment}
use Rattle.cable_faults.specs.LineTexts.{line_of}
use Rattle.cable_faults.specs.Obeying.{off_after, orders_after}
use Rattle.cable_faults.specs.Paces.{dues, first_pace}
use Rattle.cable_faults.specs.Rows.{done_row, fault_row}
use Rattle.dp_text.specs.TextExamples.{text_on_literals}

-- ---- chance

-- 1.5 percent of 2^32 is 64424509.44
pub last_hit : hits (record { millionths = 15000 }) 64424509 ≡ true
last_hit = refl

pub first_miss : hits (record { millionths = 15000 }) 64424510 ≡ false
first_miss = refl

-- the first word of the reference generator of PCG's C code
pub reference_word : word_of (first_random_words 42 54) ≡ 0xa15c02b7
unfolding word_of first_random_words
reference_word = refl

-- ---- telegrams

-- FDL status of master 1 to slave 5, the answer to it, a token of master 1 to itself
abbrev poll : List ℕ
poll = 0x10 ∷ 0x05 ∷ 0x01 ∷ 0x49 ∷ 0x4F ∷ 0x16 ∷ []

abbrev answer : List ℕ
answer = 0x10 ∷ 0x01 ∷ 0x05 ∷ 0x00 ∷ 0x06 ∷ 0x16 ∷ []

abbrev own_token : List ℕ
own_token = 0xDC ∷ 0x01 ∷ 0x01 ∷ []

abbrev ack : List ℕ
ack = 0xE5 ∷ []

pub another_octet : changed 0xFF 0 ≡ 0x00
another_octet = refl

pub the_octet_before : changed 0x05 254 ≡ 0x04
the_octet_before = refl

-- place 1 + 2, of the four octets DA, SA, FC and FCS
pub a_spoilt_octet : sent_of (spoilt_treatment poll 2 0) poll ≡ 0x10 ∷ 0x05 ∷ 0x01 ∷ 0x4A ∷ 0x4F ∷ 0x16 ∷ []
a_spoilt_octet = refl

pub a_spoilt_check_sequence : sent_of (spoilt_treatment poll 7 0) poll ≡ 0x10 ∷ 0x05 ∷ 0x01 ∷ 0x49 ∷ 0x50 ∷ 0x16 ∷ []
a_spoilt_check_sequence = refl

pub a_spoilt_acknowledgement : spoilt_treatment ack 9 0 ≡ Spoilt 0 0xE6
a_spoilt_acknowledgement = refl

-- E5 + 2B is 10, a start delimiter
pub no_other_start : spoilt_treatment ack 0 42 ≡ Spoilt 0 0x11
no_other_start = refl

pub a_cut : cut_count poll 4 ≡ 5
a_cut = refl

pub the_shortest_cut : cut_count poll 5 ≡ 1
the_shortest_cut = refl

pub nothing_to_cut : cut_count ack 5 ≡ 0
nothing_to_cut = refl

-- ---- decisions

abbrev chance : ℕ → Chance
chance millionths = record { millionths = millionths }

-- half of all replies are late by 20 ms, and each reply is delayed by 5 ms
abbrev options : Options
options = record {
  lose = chance 0;
  spoil = chance 0;
  cut = chance 0;
  late = chance 500000;
  late_milliseconds = 20;
  delay = 5;
  covered = Replies;
  drops_tokens = true;
}

abbrev order : OrderKind → ℕ → ℕ → ℕ → Order
order kind slave count left = record { kind = kind; slave = slave; count = count; left = left }

abbrev cable : Cable
cable = record {
  options = options;
  off = record { items = 7 ∷ [] };
  waiting = record { items = order ordered.Lose 6 1 1 ∷ order (ordered.Late 300) 5 2 2 ∷ order ordered.Lose 5 1 1 ∷ [] };
}

abbrev draw : ℕ → Draw
draw late = record { lose = 0; spoil = 0; cut = 0; late = late; place = 0; change = 0 }

-- the first order for slave 5, of whose two replies this is the first; the delay comes on top
pub an_order : decision_of cable Reply answer None (draw 0) ≡ record { treatment = Late 300; wait = 305; slave = Some 5; done = None }
an_order = refl

pub one_less : waiting_after cable Reply answer None ≡ order ordered.Lose 6 1 1 ∷ order (ordered.Late 300) 5 2 1 ∷ order ordered.Lose 5 1 1 ∷ []
one_less = refl

-- a short acknowledgement belongs to the slave of the last request, here the last reply of its order
pub an_acknowledgement : decision_of cable Reply ack (Some 6) (draw 0) ≡ record { treatment = Lost; wait = 5; slave = Some 6; done = Some (order ordered.Lose 6 1 1) }
an_acknowledgement = refl

pub its_order_goes : waiting_after cable Reply ack (Some 6) ≡ order (ordered.Late 300) 5 2 2 ∷ order ordered.Lose 5 1 1 ∷ []
its_order_goes = refl

-- without an order chance decides, for replies only
pub by_chance : decision_of cable Reply ack (Some 9) (draw 2147483647) ≡ record { treatment = Late 20; wait = 25; slave = Some 9; done = None }
by_chance = refl

pub not_by_chance : decision_of cable Reply ack (Some 9) (draw 2147483648) ≡ record { treatment = Passed; wait = 5; slave = Some 9; done = None }
not_by_chance = refl

pub a_request : decision_of cable Request poll None (draw 0) ≡ record { treatment = Passed; wait = 0; slave = Some 5; done = None }
a_request = refl

pub a_slave_off_the_bus : decision_of cable Reply ack (Some 7) (draw 0) ≡ record { treatment = Lost; wait = 5; slave = Some 7; done = None }
a_slave_off_the_bus = refl

pub a_withheld_token : decision_of cable Request own_token None (draw 0) ≡ record { treatment = Withheld; wait = 0; slave = None; done = None }
a_withheld_token = refl

-- ---- lines

pub a_line : line_of (codes "late 5 2 300") ≡ Some (Faults (order (ordered.Late 300) 5 2 2))
a_line = refl

pub a_line_without_milliseconds : line_of (codes "late 5 2") ≡ None
a_line_without_milliseconds = refl

pub no_replies : line_of (codes "lose 5 0") ≡ None
no_replies = refl

pub no_station : line_of (codes "off 127") ≡ None
no_station = refl

pub off_once : off_after (7 ∷ []) (Off 7) ≡ 7 ∷ []
off_once = refl

pub all_orders_go : orders_after (order ordered.Lose 6 1 1 ∷ []) Clear ≡ []
all_orders_go = refl

-- ---- rows

pub a_done_line : done_row (Faults (order (ordered.Late 300) 5 2 0)) ≡ codes "done late 5 2 300\n"
unfolding text_on_literals
a_done_line = refl

pub a_cut_row : fault_row 2 Request (record { before = record { items = poll }; decision = record { treatment = Cut 2; wait = 0; slave = Some 5; done = None } })
    ≡ codes "master 2 request 5: cut 100501494f16 -> 1005"
unfolding text_on_literals
a_cut_row = refl

pub a_lost_row : fault_row 2 Reply (record { before = record { items = ack }; decision = record { treatment = Lost; wait = 0; slave = None; done = None } })
    ≡ codes "master 2 reply -: lost e5 -> -"
unfolding text_on_literals
a_lost_row = refl

-- ---- moments

-- a telegram that comes behind one that is 300 ms late goes out with it
pub behind_a_late_one : dues first_pace (record { moment = 1000; wait = 0 } ∷ record { moment = 2000; wait = 300 } ∷ record { moment = 3000; wait = 0 } ∷ [])
    ≡ 1000 ∷ 302000 ∷ 302000 ∷ []
behind_a_late_one = refl
