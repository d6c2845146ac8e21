-- detail
-- The changes that an event caused, as facts: state and holder of a slave, if one of them differs from before (own).
use Rattle.std.specs.Prelude.{ℕ, ◌&&◌, if◌then◌else◌, List, Option, Some, None}
use Rattle.std.specs.List.{filter_map}
use Rattle.dp_slave.specs.declared.view.SlaveView.{SlaveView}
use Rattle.dp_line.specs.declared.event.Event.{Event}
use Rattle.dp_line.specs.declared.event.Outcome.{Outcome}
use Rattle.dp_line.specs.World.{World}
use Rattle.explain_events.specs.declared.change.Change.{Change}
use Rattle.explain_events.specs.declared.change.StateAndHolder.{StateAndHolder}
use Rattle.explain_events.specs.Changes.{same_holder, same_state, touched}
use Rattle.explain_events.specs.Shown.{shown_at}

abbrev pub state_and_holder_of : SlaveView → StateAndHolder
state_and_holder_of slave = record { state = slave.state; holder = slave.holder }

-- of a slave before and after an event; None if both are unchanged
abbrev pub changed : ℕ → Option SlaveView → Option SlaveView → Option Change
changed address None after = None
changed address (Some before) None = None
changed address (Some before) (Some after) =
    if same_state before.state after.state && same_holder before.holder after.holder then None
    else Some (record { address = address; before = state_and_holder_of before; after = state_and_holder_of after })

abbrev pub change_at : World → World → ℕ → Option Change
change_at before after address = changed address (shown_at before address) (shown_at after address)

-- all changes of an event, in the order of the addresses that it touches
abbrev pub changes_of : World → World → Event → Outcome → List Change
changes_of before after event outcome = filter_map (change_at before after) (touched event outcome)
