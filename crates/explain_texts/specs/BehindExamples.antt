-- helper
-- Examples of what is counted behind a head, on the line of the examples of statistics.
use Rattle.std.specs.Prelude.{◌≡◌, List, [], ◌∷◌, refl}
use Rattle.dp_line.specs.declared.event.Event.{Event}
use Rattle.dp_line.specs.declared.event.Event.TheVariants.{Operator}
use Rattle.dp_line.specs.declared.event.Op.TheVariants.{Tick}
use Rattle.dp_line.specs.LineExamples.{ask, check, exchange, lock, text_of_step}
use Rattle.dp_line.specs.World.{ascending}
use Rattle.audit_heads.specs.Head.{Head}
use Rattle.explain_texts.specs.declared.statistics.AddressCounts.{AddressCounts}
use Rattle.explain_texts.specs.declared.statistics.Item.TheVariants as items
use Rattle.explain_texts.specs.Behind.{known_behind_head}
use Rattle.explain_texts.specs.Known.{KnownView, first_known, last_statistics}
use Rattle.explain_texts.specs.StationCounts.{first_statistics}
use Rattle.explain_texts.specs.StatisticsExamples.{held, held_by, known, line, received}

abbrev head_of : KnownView → Head
head_of known = record { world = known.context.world; time = known.context.time }

-- a head at 70 ms, behind an exchange; master 1 has held slave 5 since 20 ms
abbrev head : Head
head = head_of (known (first_known line 1000) (Operator (Tick 2) ∷ ask 1 lock ∷ ask 1 check ∷ ask 1 exchange ∷ Operator (Tick 5) ∷ []))

abbrev statistics : List Event → List AddressCounts
statistics events = last_statistics (known (known_behind_head line head) events)

-- the hold counts from the head on, and lasts to 100 ms
pub a_hold_counts_from_the_head :
    held 5 (statistics (Operator (Tick 3) ∷ [])) ∷ held_by 1 (statistics (Operator (Tick 3) ∷ [])) ∷ [] ≡ 3 ∷ 3 ∷ []
unfolding text_of_step first_statistics ascending
a_hold_counts_from_the_head = refl

-- the exchange before the head counts nothing, and its repeat counts as a retry
pub a_repeat_of_an_earlier_exchange :
    received 5 items.Exchange (statistics (ask 1 exchange ∷ [])) ∷ received 5 items.Retry (statistics (ask 1 exchange ∷ [])) ∷ [] ≡ 0 ∷ 1 ∷ []
unfolding text_of_step first_statistics ascending
a_repeat_of_an_earlier_exchange = refl
