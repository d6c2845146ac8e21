-- detail
-- How many requests of a sender were answered in each way, as JSON (own).
use Rattle.std.specs.Prelude.{codes, ℕ, ◌==◌, not, Bool, List, ◌++◌, map, filter, Option}
use Rattle.std.specs.Fmt.{decimal}
use Rattle.explain_events.specs.declared.way.Answered.{Answered}
use Rattle.explain_texts.specs.declared.tally.SenderCounts.{SenderCounts}
use Rattle.explain_texts.specs.JsonValues.{array_json, string_json, truth_json}
use Rattle.explain_texts.specs.Tallies.{all_ways, count_of, is_fault, way_words}

-- a request of the sender was answered in this way
abbrev pub was_counted : SenderCounts → Option Answered → Bool
was_counted counts way = not (count_of counts way == 0)

-- a way, how often it was counted, and whether it is a fault of the bus
unfoldable pub way_json : SenderCounts → Option Answered → List ℕ
way_json counts way =
    codes "{\"way\":" ++ string_json (way_words way)
    ++ codes ",\"count\":" ++ decimal (count_of counts way)
    ++ codes ",\"fault\":" ++ truth_json (is_fault way)
    ++ codes "}"

-- the ways that were counted, in the order of their rows
unfoldable pub ways_json : SenderCounts → List ℕ
ways_json counts = array_json (map (way_json counts) (filter (was_counted counts) all_ways))
