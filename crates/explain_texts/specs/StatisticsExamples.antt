-- helper
-- Examples of the statistics of a line with masters 1 and 2 and slave 5, after requests and ticks.
use Rattle.std.specs.Prelude.{◌≡◌, ℕ, false, List, [], ◌∷◌, map, slice_get, refl}
use Rattle.std.specs.Option.{option_map_or}
use Rattle.dp_responder.specs.declared.rule.Rule.TheVariants as rules
use Rattle.dp_line.specs.declared.event.Event.{Event}
use Rattle.dp_line.specs.declared.event.Event.TheVariants.{Operator}
use Rattle.dp_line.specs.declared.event.Op.TheVariants.{Tick}
use Rattle.dp_line.specs.LineExamples.{ask, check, exchange, lock, read_diagnosis, slave_5, text_of_step}
use Rattle.dp_line.specs.World.{Description, ascending, has_twice}
use Rattle.explain_events.specs.declared.ending.Ending.TheVariants as endings
use Rattle.explain_texts.specs.declared.statistics.AddressCounts.{AddressCounts}
use Rattle.explain_texts.specs.declared.statistics.Item.{Item}
use Rattle.explain_texts.specs.declared.statistics.Item.TheVariants as items
use Rattle.explain_texts.specs.StationCounts.{first_statistics, item_count, item_number}
use Rattle.explain_texts.specs.Tallies.{all_ways, way_number}
use Rattle.explain_texts.specs.Known.{KnownView, first_known, known_after, last_statistics}

abbrev pub line : Description
line = record { number = 1; capacity = 1000; masters = 1 ∷ 2 ∷ []; slaves = slave_5 ∷ [] }

abbrev pub known : KnownView → List Event → KnownView
known before [] = before
known before (event ∷ events) = known (known_after before event) events

abbrev statistics : List Event → List AddressCounts
statistics events = last_statistics (known (first_known line 1000) events)

-- how often an item was counted at a receiver and at a sender, and for how long each was held or held slaves
abbrev pub received : ℕ → Item → List AddressCounts → ℕ
received address item all = option_map_or (λ counts. item_count counts.receiver item) (slice_get all address) 0

abbrev sent : ℕ → Item → List AddressCounts → ℕ
sent address item all = option_map_or (λ counts. item_count counts.sender item) (slice_get all address) 0

abbrev pub held : ℕ → List AddressCounts → ℕ
held address all = option_map_or (λ counts. counts.receiver.held) (slice_get all address) 0

abbrev pub held_by : ℕ → List AddressCounts → ℕ
held_by address all = option_map_or (λ counts. counts.sender.held) (slice_get all address) 0

-- FDL status of station 9, of both masters, and of slave 5
abbrev poll : List ℕ
poll = 0x10 ∷ 0x09 ∷ 0x01 ∷ 0x49 ∷ 0x53 ∷ 0x16 ∷ []

abbrev poll_of_master_2 : List ℕ
poll_of_master_2 = 0x10 ∷ 0x09 ∷ 0x02 ∷ 0x49 ∷ 0x54 ∷ 0x16 ∷ []

abbrev poll_of_slave : List ℕ
poll_of_slave = 0x10 ∷ 0x05 ∷ 0x01 ∷ 0x49 ∷ 0x4F ∷ 0x16 ∷ []

-- master 2 tries to lock
abbrev intrusion : List ℕ
intrusion = 0x68 ∷ 0x0C ∷ 0x0C ∷ 0x68 ∷ 0x85 ∷ 0x82 ∷ 0x6D ∷ 0x3D ∷ 0x3E ∷ 0x88 ∷ 0x02 ∷ 0x05 ∷ 0x0B ∷ 0x80 ∷ 0xA1 ∷ 0x01 ∷ 0xAB ∷ 0x16 ∷ []

-- a diagnosis, a hold from 20 ms on, an exchange and its retry, and a refusal; the hold lasts to 70 ms
abbrev at_70_ms : List AddressCounts
at_70_ms =
    statistics
    (Operator (Tick 2) ∷ ask 1 read_diagnosis ∷ ask 1 lock ∷ ask 1 check ∷ ask 1 exchange ∷ ask 1 exchange ∷ ask 2 intrusion
    ∷ Operator (Tick 5) ∷ [])

pub counts_of_slave :
    received 5 items.Exchange at_70_ms ∷ received 5 items.Diagnosis at_70_ms ∷ received 5 items.Retry at_70_ms
    ∷ received 5 (items.Refused rules.NotHolder) at_70_ms ∷ held 5 at_70_ms ∷ []
    ≡ 1 ∷ 1 ∷ 1 ∷ 1 ∷ 5 ∷ []
unfolding text_of_step first_statistics ascending
counts_of_slave = refl

pub counts_of_masters :
    sent 1 items.Exchange at_70_ms ∷ sent 1 items.Retry at_70_ms ∷ held_by 1 at_70_ms
    ∷ sent 2 items.Exchange at_70_ms ∷ sent 2 (items.Refused rules.NotHolder) at_70_ms ∷ held_by 2 at_70_ms ∷ []
    ≡ 1 ∷ 1 ∷ 5 ∷ 0 ∷ 1 ∷ 0 ∷ []
unfolding text_of_step first_statistics ascending
counts_of_masters = refl

-- a watchdog of 100 ms runs out at the tick that ends at 160 ms: the hold has lasted since 20 ms
abbrev at_190_ms : List AddressCounts
at_190_ms = statistics (Operator (Tick 2) ∷ ask 1 lock ∷ Operator (Tick 14) ∷ Operator (Tick 3) ∷ [])

pub a_hold_that_ended :
    received 5 (items.Released endings.Watchdog) at_190_ms ∷ held 5 at_190_ms
    ∷ sent 1 (items.Released endings.Watchdog) at_190_ms ∷ held_by 1 at_190_ms ∷ []
    ≡ 1 ∷ 14 ∷ 1 ∷ 14 ∷ []
unfolding text_of_step first_statistics ascending
a_hold_that_ended = refl

abbrev polled : List AddressCounts
polled = statistics (ask 1 poll ∷ ask 2 poll_of_master_2 ∷ ask 1 poll_of_slave ∷ ask 1 read_diagnosis ∷ [])

pub polls : received 5 items.Poll polled ∷ received 9 items.Poll polled ∷ received 1 items.Poll polled ∷ [] ≡ 1 ∷ 2 ∷ 0 ∷ []
unfolding text_of_step first_statistics ascending
polls = refl

-- ---- the items

-- the items of which a station has a row
abbrev all_items : List Item
all_items =
    items.Exchange ∷ items.Diagnosis ∷ items.Retry
    ∷ items.Refused rules.Halted ∷ items.Refused rules.NoFrame ∷ items.Refused rules.NoMaster ∷ items.Refused rules.ForeignSender
    ∷ items.Refused rules.BadFunction ∷ items.Refused rules.BadExtension ∷ items.Refused rules.BadBroadcast ∷ items.Refused rules.NoStation
    ∷ items.Refused rules.NoService ∷ items.Refused rules.NotActive ∷ items.Refused rules.NotHolder ∷ items.Refused rules.NotListed
    ∷ items.Refused rules.Busy ∷ items.Refused rules.Length ∷ items.Refused rules.NotSelected
    ∷ items.Released endings.WrongConfiguration ∷ items.Released endings.WrongParameters ∷ items.Released endings.Unlocked
    ∷ items.Released endings.Halted ∷ items.Released endings.Watchdog ∷ []

-- no two items have one number
pub numbers_differ : has_twice (map item_number (items.Poll ∷ items.Released endings.Lasts ∷ all_items)) ≡ false
numbers_differ = refl

-- no two ways have one number
pub way_numbers_differ : has_twice (map way_number all_ways) ≡ false
way_numbers_differ = refl
