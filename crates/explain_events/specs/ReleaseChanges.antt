-- detail
-- The releases that an event caused (own).
use Rattle.std.specs.Prelude.{ℕ, if◌then◌else◌, List, [], ◌∷◌, slice_set, Option, Some, None}
use Rattle.dp_slave.specs.declared.view.SlaveView.{SlaveView}
use Rattle.dp_line.specs.declared.event.Event.{Event}
use Rattle.dp_line.specs.declared.event.Outcome.{Outcome}
use Rattle.dp_line.specs.World.{World}
use Rattle.explain_events.specs.declared.releases.Release.{Release}
use Rattle.explain_events.specs.Changes.{same_holder, touched}
use Rattle.explain_events.specs.Endings.{ending_by}
use Rattle.explain_events.specs.Shown.{shown_at}

-- a slave that this master held before the event is released by it
abbrev pub release_noted : ℕ → Event → ℕ → Option ℕ → List (Option Release) → List (Option Release)
release_noted place event address None releases = releases
release_noted place event address (Some master) releases = slice_set releases address (Some (record { place = place; ending = ending_by event }))

-- a slave before and after an event
abbrev pub change_noted : ℕ → Event → ℕ → Option SlaveView → Option SlaveView → List (Option Release) → List (Option Release)
change_noted place event address None after releases = releases
change_noted place event address (Some before) None releases = releases
change_noted place event address (Some before) (Some after) releases =
    if same_holder before.holder after.holder then releases else release_noted place event address before.holder releases

abbrev pub changes_noted : World → World → ℕ → Event → List ℕ → List (Option Release) → List (Option Release)
changes_noted before after place event [] releases = releases
changes_noted before after place event (address ∷ addresses) releases =
    changes_noted before after place event addresses (change_noted place event address (shown_at before address) (shown_at after address) releases)

-- after an event at this place, by the line before and after it, and its outcome
abbrev pub releases_after : List (Option Release) → World → World → ℕ → Event → Outcome → List (Option Release)
releases_after releases before after place event outcome = changes_noted before after place event (touched event outcome) releases
