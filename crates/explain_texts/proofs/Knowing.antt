-- The entry of an event, from equal parts.
use Rattle.std.proofs.Common.{◌≡◌, ℕ, true, List, Option, Result, subst}
use Rattle.dp_line.specs.declared.event.Event.{Event}
use Rattle.dp_line.specs.declared.event.Outcome.{Outcome}
use Rattle.dp_line.specs.World.{Description, World}
use Rattle.explain_events.specs.declared.notes.Noted.{Noted}
use Rattle.explain_events.specs.declared.releases.Release.{Release}
use Rattle.explain_events.specs.EventContexts.{EventContextView}
use Rattle.explain_texts.specs.declared.choice.Choice.{Choice}
use Rattle.explain_texts.specs.declared.explain_fault.ExplainFault.{ExplainFault}
use Rattle.explain_texts.specs.Choices.{is_chosen}
use Rattle.explain_texts.specs.Explained.{chosen_entry}
use Rattle.explain_texts.specs.Reported.{reports_entry}
use Rattle.explain_texts.specs.Reports.{LeavesFacts, Takes}
use Rattle.explain_texts.proofs.Reporting.{leaves_where, one_taken}

abbrev context_of : Description → World → List Noted → List (Option Release) → Option ℕ → EventContextView
context_of description world notes releases time =
    record { description = description; world = world; notes = notes; releases = releases; time = time }

pub chosen_is : {S : Type 0} (takes : Takes S) (choice : Choice) (description : Description) (world : World) (notes others : List Noted) (releases left : List (Option Release)) (time : Option ℕ) (after : World) (place : ℕ) (event : Event) (outcome : Outcome)
    (old new : S) (result : Result (Unit {0}) ExplainFault) → notes ≡ others → releases ≡ left → is_chosen choice (context_of description world notes releases time) place event outcome ≡ true
    → takes old (reports_entry (record { context = context_of description world notes releases time; after = after; place = place; event = event; outcome = outcome })) result new
    → LeavesFacts takes (chosen_entry choice (context_of description world others left time) after place event outcome) old new result
chosen_is takes choice description world notes others releases left time after place event outcome old new result same same_releases chosen took =
    subst (λ (r : List (Option Release)). LeavesFacts takes (chosen_entry choice (context_of description world others r time) after place event outcome) old new result) same_releases
    (subst (λ (n : List Noted). LeavesFacts takes (chosen_entry choice (context_of description world n releases time) after place event outcome) old new result) same
    (leaves_where takes _ _ old new result chosen (one_taken takes old new _ result took)))
