-- What is known behind the head of a part.
use Rattle.std.proofs.Common.{◌≡◌, ℕ, List, Option, ap, ◌∙◌}
use Rattle.dp_line.specs.World.{Description, World}
use Rattle.explain_events.specs.declared.notes.Noted.{Noted}
use Rattle.explain_events.specs.declared.releases.Release.{Release}
use Rattle.explain_texts.specs.declared.statistics.AddressCounts.{AddressCounts}
use Rattle.explain_texts.specs.declared.tally.SenderCounts.{SenderCounts}
use Rattle.explain_texts.specs.Behind.{all_holds_begun, known_behind_head}
use Rattle.explain_texts.specs.Known.{KnownView, first_known}
use Rattle.explain_texts.specs.Statistics.{moment}

abbrev known_of : Description → World → List Noted → List (Option Release) → Option ℕ → List SenderCounts → List AddressCounts → KnownView
known_of line world notes releases time tally statistics = record {
  context = record { description = line; world = world; notes = notes; releases = releases; time = time };
  tally = tally;
  statistics = statistics;
}

-- with another world, time and statistics
abbrev moved : World → Option ℕ → List AddressCounts → KnownView → KnownView
moved world time statistics known = known_of known.context.description world known.context.notes known.context.releases time known.tally statistics

-- what is known behind a head is what is known before the first entry, but for the world, the time and the holds
pub history_is : (first : KnownView) (line : Description) (places : ℕ) (world : World) (time : Option ℕ) (statistics : List AddressCounts) → first ≡ first_known line places
    → statistics ≡ all_holds_begun world (moment time) line.slaves first.statistics → moved world time statistics first ≡ known_behind_head line (record { world = world; time = time })
history_is first line places world time statistics opened begun =
    ap (λ (s : List AddressCounts). moved world time s first) begun
    ∙ ap (λ (k : KnownView). moved world time (all_holds_begun world (moment time) line.slaves k.statistics) k) opened
