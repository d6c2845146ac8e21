-- helper
-- The state of a follower, and the holds that it stores (own). No public clause cites this module.
use Rattle.std.specs.Prelude.{◌≡◌, List, ◌++◌, Option, option_map, Result, Ok, Err}
use Rattle.dp_line.specs.World.{World, description_of}
use Rattle.explain_texts.specs.declared.explain_fault.ExplainFault.{ExplainFault}
use Rattle.explain_texts.specs.declared.follow_fault.FollowFault.{FollowFault}
use Rattle.explain_texts.specs.declared.follow_fault.FollowFault.TheVariants as faults
use Rattle.explain_texts.specs.declared.history.History.{History}
use Rattle.explain_texts.specs.declared.hold.Hold.{Hold}
use Rattle.explain_texts.specs.Known.{KnownView}

-- what is known from the entries so far, after which the line is this one
abbrev pub known_at : History → World → KnownView
known_at history world = record {
  context = record { description = description_of history.line.now; world = world; notes = history.notes.items; releases = history.releases.items; time = history.time };
  tally = history.tally.items;
  statistics = history.statistics.items;
}

-- holds are appended, if holds are stored
abbrev pub stored_with : List Hold → Option (List Hold) → Option (List Hold)
stored_with holds stored = option_map (λ before. before ++ holds) stored

-- the holds that an event ended are stored; none of a row that is not followed. It is open what is stored if the call ended early
abbrev pub StoresHolds : List Hold → Option (List Hold) → Option (List Hold) → Result (Unit {0}) FollowFault → Type 0
StoresHolds holds old new (Ok done) = new ≡ stored_with holds old
StoresHolds holds old new (Err (faults.Wrong fault)) = new ≡ old
StoresHolds holds old new (Err (faults.Explain fault)) = Unit {0}

-- the first fault of two calls
abbrev pub first_fault : Result (Unit {0}) ExplainFault → Result (Unit {0}) ExplainFault → Result (Unit {0}) FollowFault
first_fault (Ok done) (Ok stored) = Ok tt
first_fault (Ok done) (Err fault) = Err (faults.Explain fault)
first_fault (Err fault) stored = Err (faults.Explain fault)
