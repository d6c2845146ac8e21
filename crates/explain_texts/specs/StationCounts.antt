-- detail
-- What is counted of the stations of a line, by address (own).
use Rattle.std.specs.Prelude.{ℕ, zero, suc, List, [], ◌∷◌, map, replicate, slice_index, slice_set}
use Rattle.std.specs.List.{range_with_len}
use Rattle.dp_responder.specs.Rules.{rule_code}
use Rattle.explain_events.specs.declared.ending.Ending.TheVariants as endings
use Rattle.explain_texts.specs.declared.statistics.AddressCounts.{AddressCounts}
use Rattle.explain_texts.specs.declared.statistics.Count.{Count}
use Rattle.explain_texts.specs.declared.statistics.Count.TheVariants.{Received, Sent, Began}
use Rattle.explain_texts.specs.declared.statistics.Item.{Item}
use Rattle.explain_texts.specs.declared.statistics.Item.TheVariants as items
use Rattle.explain_texts.specs.declared.statistics.StationCounts.{StationCounts}
use Rattle.explain_texts.specs.Tallies.{added}

-- ---- the counts of an address

-- the number of an item among the counts of a station: that of its rule, 1 to 20, or a later one
abbrev pub item_number : Item → ℕ
item_number (items.Refused rule) = rule_code rule
item_number items.Exchange = 21
item_number items.Diagnosis = 22
item_number items.Retry = 23
item_number items.Poll = 24
item_number (items.Released endings.WrongConfiguration) = 25
item_number (items.Released endings.WrongParameters) = 26
item_number (items.Released endings.Unlocked) = 27
item_number (items.Released endings.Halted) = 28
item_number (items.Released endings.Watchdog) = 29
item_number (items.Released endings.Lasts) = 30

abbrev pub item_count : StationCounts → Item → ℕ
item_count station item = slice_index station.by_item (item_number item)

-- one more of an item; it adds this time to the time of the holds
abbrev pub with_item : Item → ℕ → StationCounts → StationCounts
with_item item units station = record {
  by_item = slice_set station.by_item (item_number item) (added (item_count station item) 1);
  held = added station.held units;
}

abbrev pub with_count : Count → AddressCounts → AddressCounts
with_count (Received item units) address = record address { receiver = with_item item units address.receiver }
with_count (Sent item units) address = record address { sender = with_item item units address.sender }
with_count (Began time) address = record address { began = time }

-- before the first event
abbrev pub no_counts : StationCounts
no_counts = record { by_item = replicate 31 0; held = 0 }

abbrev pub first_counts : ℕ → AddressCounts
first_counts address = record { address = address; receiver = no_counts; sender = no_counts; began = 0 }

-- ---- the statistics: the counts of each address from 0 to 127, which are the addresses that a telegram can name, at its index

unfoldable pub first_statistics : List AddressCounts
first_statistics = map first_counts (range_with_len 0 128)

-- the counts at an index are changed
abbrev pub counted_at : ℕ → Count → List AddressCounts → List AddressCounts
counted_at index count [] = []
counted_at zero count (address ∷ others) = with_count count address ∷ others
counted_at (suc index) count (address ∷ others) = address ∷ counted_at index count others

-- an item counts at the receiver and at the sender, or at the slave and its holder
abbrev pub counted_at_both : ℕ → ℕ → Item → ℕ → List AddressCounts → List AddressCounts
counted_at_both slave master item units statistics = counted_at master (Sent item units) (counted_at slave (Received item units) statistics)
