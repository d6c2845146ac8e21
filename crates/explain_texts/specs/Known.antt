-- detail
-- What is known before an event: the context, the tally and the statistics (own).
use Rattle.std.specs.Prelude.{ℕ, ◌+◌, List, map, Option, Some, None}
use Rattle.arrayvec.specs.ArrayVec.{ArrayVec}
use Rattle.dp_line.specs.declared.event.Event.{Event}
use Rattle.dp_line.specs.declared.event.Outcome.{Outcome}
use Rattle.dp_line.specs.declared.event.Outcome.TheVariants.{Released}
use Rattle.dp_line.specs.World.{Description, World, start_of}
use Rattle.dp_line.specs.Steps.{step}
use Rattle.explain_events.specs.Notes.{first_notes, notes_after}
use Rattle.explain_events.specs.ReleaseChanges.{releases_after}
use Rattle.explain_events.specs.Releases.{first_releases}
use Rattle.explain_events.specs.EventContexts.{EventContextView}
use Rattle.dp_audit.specs.Times.{time_after}
use Rattle.explain_texts.specs.declared.statistics.AddressCounts.{AddressCounts}
use Rattle.explain_texts.specs.declared.tally.SenderCounts.{SenderCounts}
use Rattle.explain_texts.specs.StationCounts.{first_statistics}
use Rattle.explain_texts.specs.Statistics.{all_lasting_counted, moment, statistics_after}
use Rattle.explain_texts.specs.Tallies.{first_tally, tally_after}

pub record KnownView : Type 0 where
  pub context : EventContextView
  pub tally : List SenderCounts
  -- the counts of each address, at its index
  pub statistics : List AddressCounts

abbrev pub slave_addresses : Description → List ℕ
slave_addresses line = map (λ slave. slave.address) line.slaves

-- before the first entry of a line with this number of places
abbrev pub first_world : Description → ℕ → World
first_world line places = start_of (record line { capacity = places })

abbrev pub first_known : Description → ℕ → KnownView
first_known line places = record {
  context = record {
    description = line;
    world = first_world line places;
    notes = first_notes (slave_addresses line) line.masters;
    releases = first_releases;
    time = None;
  };
  tally = first_tally line.masters;
  statistics = first_statistics;
}

-- after an event at this place, by its outcome and the line after it
abbrev pub known_with : KnownView → World → ℕ → Event → Outcome → KnownView
known_with known after place event outcome = record {
  context = record {
    description = known.context.description;
    world = after;
    notes = notes_after known.context.notes place event outcome;
    releases = releases_after known.context.releases known.context.world after place event outcome;
    time = time_after known.context.time event;
  };
  tally = tally_after known.tally known.context event outcome;
  statistics = statistics_after known.statistics known.context after event outcome;
}

-- ---- by the state of the line

-- the outcome of an entry; if the event reached the last place, that of the halt, which is recorded instead
abbrev pub outcome_with : Outcome → Option (ArrayVec ℕ) → Outcome
outcome_with outcome None = outcome
outcome_with outcome (Some addresses) = Released addresses

abbrev pub outcome_reported : World → Event → Outcome
outcome_reported world event = outcome_with (step world event).answer.outcome (step world event).answer.halted

-- the event takes the next place of the line
abbrev pub known_after : KnownView → Event → KnownView
known_after known event =
    known_with known (step known.context.world event).world (known.context.world.count + 1) event (outcome_reported known.context.world event)

-- ---- at the end

-- the statistics, with the holds that last
abbrev pub last_statistics : KnownView → List AddressCounts
last_statistics known = all_lasting_counted known.context.world (moment known.context.time) known.context.description.slaves known.statistics
