-- detail
-- How many requests of each master were answered in each way (own). A sender that is no master of the line counts as one of the others.
use Rattle.std.specs.Prelude.{codes, ℕ, ◌+◌, ◌-◌, ◌^◌, ◌==◌, min, if◌then◌else◌, Bool, true, false, List, [], ◌∷◌, ◌++◌, map, replicate, slice_index, slice_set, Option, Some, None}
use Rattle.std.specs.Option.{option_map_or}
use Rattle.dp_responder.specs.declared.rule.Rule.{Rule}
use Rattle.dp_responder.specs.declared.rule.Rule.TheVariants as rules
use Rattle.dp_responder.specs.Rules.{rule_code}
use Rattle.dp_line.specs.declared.event.Event.{Event}
use Rattle.dp_line.specs.declared.event.Event.TheVariants.{Request, Operator}
use Rattle.dp_line.specs.declared.event.Outcome.{Outcome}
use Rattle.dp_line.specs.declared.event.Outcome.TheVariants.{Reply, Silence, Spread, Done}
use Rattle.explain_events.specs.declared.way.Answered.{Answered}
use Rattle.explain_events.specs.declared.way.Answered.TheVariants as ways
use Rattle.explain_texts.specs.declared.tally.SenderCounts.{SenderCounts}
use Rattle.explain_events.specs.EventContexts.{EventContextView}
use Rattle.explain_events.specs.Ways.{answered_as, is_fault_way, some_selected, way_name, way_of_pair}

-- ---- the counts of a sender

-- all ways in the order of their rows; None is that of a request to all slaves that reached no slave
abbrev pub all_ways : List (Option Answered)
all_ways =
    Some (ways.ByRule rules.Halted) ∷ Some (ways.ByRule rules.NoFrame) ∷ Some (ways.ByRule rules.NoMaster) ∷ Some (ways.ByRule rules.ForeignSender)
    ∷ Some (ways.ByRule rules.Token) ∷ Some (ways.ByRule rules.NotRequest) ∷ Some (ways.ByRule rules.BadFunction) ∷ Some (ways.ByRule rules.BadExtension)
    ∷ Some (ways.ByRule rules.BadBroadcast) ∷ Some (ways.ByRule rules.NoStation) ∷ Some ways.LiveListPoll ∷ Some (ways.ByRule rules.Status)
    ∷ Some (ways.ByRule rules.NoService) ∷ Some ways.Retry ∷ Some ways.OtherRepeat ∷ Some (ways.ByRule rules.NotActive)
    ∷ Some (ways.ByRule rules.NotHolder) ∷ Some (ways.ByRule rules.NotListed) ∷ Some (ways.ByRule rules.Busy) ∷ Some (ways.ByRule rules.Length)
    ∷ Some (ways.ByRule rules.NotSelected) ∷ Some ways.NoneSelected ∷ Some (ways.ByRule rules.Done) ∷ Some ways.NotAskedFor ∷ Some ways.WrongSetPrm
    ∷ Some ways.WrongChkCfg ∷ None ∷ []

-- the number of a way among the counts of a sender: that of its rule, 1 to 20, or a later one. No way has the number of Repeat, because a repeat
-- is a retry or another telegram
abbrev pub way_number : Option Answered → ℕ
way_number None = 0
way_number (Some (ways.ByRule rule)) = rule_code rule
way_number (Some ways.LiveListPoll) = 21
way_number (Some ways.Retry) = 22
way_number (Some ways.OtherRepeat) = 23
way_number (Some ways.WrongSetPrm) = 24
way_number (Some ways.WrongChkCfg) = 25
way_number (Some ways.NotAskedFor) = 26
way_number (Some ways.NoneSelected) = 27

-- before the first event
abbrev pub uncounted : Option ℕ → SenderCounts
uncounted sender = record { sender = sender; by_way = replicate 28 0 }

abbrev pub count_of : SenderCounts → Option Answered → ℕ
count_of counts way = slice_index counts.by_way (way_number way)

-- a count stops at the largest number of 64 bits
abbrev pub added : ℕ → ℕ → ℕ
added count more = min (count + more) (2 ^ 64 - 1)

-- after one more request that was answered in this way
abbrev pub one_more : Option Answered → SenderCounts → SenderCounts
one_more way counts = record counts { by_way = slice_set counts.by_way (way_number way) (added (count_of counts way) 1) }

-- ---- the tally: the counts of each master, and last those of all others

abbrev pub masters_tally : List ℕ → List SenderCounts
masters_tally masters = map (λ master. uncounted (Some master)) masters

abbrev pub first_tally : List ℕ → List SenderCounts
first_tally masters = masters_tally masters ++ uncounted None ∷ []

-- the counts are for requests of this master; those of the others are for any
abbrev pub is_for_sender : ℕ → SenderCounts → Bool
is_for_sender master counts = option_map_or (λ sender. sender == master) counts.sender true

-- the first counts that are for the sender are changed
abbrev pub counted : ℕ → Option Answered → List SenderCounts → List SenderCounts
counted master way [] = []
counted master way (counts ∷ others) =
    if is_for_sender master counts then one_more way counts ∷ others else counts ∷ counted master way others

-- a request to all slaves counts once for each slave that it reached, by the way in which that slave answered it, or once if it reached none
abbrev pub counted_each : EventContextView → ℕ → List ℕ → Bool → List (ℕ × Rule) → List SenderCounts → List SenderCounts
counted_each context master octets some [] tally = tally
counted_each context master octets some (pair ∷ pairs) tally =
    counted_each context master octets some pairs (counted master (Some (way_of_pair context octets some pair)) tally)

abbrev pub counted_spread : EventContextView → ℕ → List ℕ → List (ℕ × Rule) → List SenderCounts → List SenderCounts
counted_spread context master octets [] tally = counted master None tally
counted_spread context master octets (pair ∷ pairs) tally = counted_each context master octets (some_selected (pair ∷ pairs)) (pair ∷ pairs) tally

-- another request counts once, by the way in which it was answered
abbrev pub counted_answer : EventContextView → ℕ → List ℕ → Outcome → List SenderCounts → List SenderCounts
counted_answer context master octets (Reply reply rule) tally = counted master (Some (answered_as context master octets rule)) tally
counted_answer context master octets (Silence rule) tally = counted master (Some (answered_as context master octets rule)) tally
counted_answer context master octets Done tally = counted master (Some (answered_as context master octets rules.Done)) tally
counted_answer context master octets (Spread pairs) tally = counted_spread context master octets pairs.items tally
counted_answer context master octets outcome tally = tally

-- after an event, by the context before it and its outcome
abbrev pub tally_after : List SenderCounts → EventContextView → Event → Outcome → List SenderCounts
tally_after tally context (Request master octets) outcome = counted_answer context master octets.items outcome tally
tally_after tally context (Operator op) outcome = tally

-- ---- the ways in words, and which of them are faults

abbrev pub way_words : Option Answered → List ℕ
way_words None = codes "to no slave"
way_words (Some answered) = way_name answered

-- a way that is a fault of the bus; that a request reached no slave is none
abbrev pub is_fault : Option Answered → Bool
is_fault way = option_map_or is_fault_way way false
