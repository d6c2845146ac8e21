-- detail
-- The holds of slaves: by which master, from which entry to which, and how each ended (own).
use Rattle.std.specs.Prelude.{ℕ, if◌then◌else◌, List, [], ◌∷◌, Option, Some, None}
use Rattle.std.specs.List.{flat_map}
use Rattle.dp_slave.specs.declared.description.SlaveSpec.{SlaveSpec}
use Rattle.dp_slave.specs.declared.view.SlaveView.{SlaveView}
use Rattle.dp_line.specs.declared.event.Event.{Event}
use Rattle.dp_line.specs.declared.event.Outcome.{Outcome}
use Rattle.dp_line.specs.World.{World}
use Rattle.explain_events.specs.declared.ending.Ending.{Ending}
use Rattle.explain_events.specs.declared.ending.Ending.TheVariants as endings
use Rattle.explain_events.specs.Shown.{shown_at}
use Rattle.explain_events.specs.Changes.{same_holder, touched}
use Rattle.explain_events.specs.Endings.{ending_by}
use Rattle.explain_texts.specs.declared.hold.Hold.{Hold}

-- a hold, if there is one, as a list
abbrev pub hold_list : Option Hold → List Hold
hold_list None = []
hold_list (Some hold) = hold ∷ []

abbrev one_hold : ℕ → ℕ → ℕ → Option ℕ → Ending → List Hold
one_hold address master since place ending = record { address = address; master = master; since = since; place = place; ending = ending } ∷ []

-- ---- the holds that an event ended

-- the hold of a slave that somebody held
abbrev pub ended_of : ℕ → Event → ℕ → ℕ → Option ℕ → List Hold
ended_of place event address since None = []
ended_of place event address since (Some master) = one_hold address master since (Some place) (ending_by event)

-- a hold that an event at this place ended: the holder differs from before
abbrev pub hold_ended : ℕ → Event → ℕ → Option SlaveView → Option SlaveView → List Hold
hold_ended place event address None after = []
hold_ended place event address (Some before) None = []
hold_ended place event address (Some before) (Some after) =
    if same_holder before.holder after.holder then [] else ended_of place event address before.since before.holder

abbrev pub ended_at : World → World → ℕ → Event → ℕ → List Hold
ended_at before after place event address = hold_ended place event address (shown_at before address) (shown_at after address)

-- all holds that an event ended, between the line before and after it: only those of slaves whose holder it can change
abbrev pub holds_ended : World → World → ℕ → Event → Outcome → List Hold
holds_ended before after place event outcome = flat_map (ended_at before after place event) (touched event outcome)

-- ---- the holds that last

abbrev pub lasting_of : ℕ → ℕ → Option ℕ → List Hold
lasting_of address since None = []
lasting_of address since (Some master) = one_hold address master since None endings.Lasts

-- a hold that lasts to the end
abbrev pub hold_lasts : ℕ → Option SlaveView → List Hold
hold_lasts address None = []
hold_lasts address (Some slave) = lasting_of address slave.since slave.holder

abbrev pub lasts_at : World → SlaveSpec → List Hold
lasts_at world slave = hold_lasts slave.address (shown_at world slave.address)

-- the holds of these slaves that last at the end, in their order
abbrev pub holds_lasting : World → List SlaveSpec → List Hold
holds_lasting world slaves = flat_map (lasts_at world) slaves
