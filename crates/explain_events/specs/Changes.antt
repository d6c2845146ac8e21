-- detail
-- The changes of slaves that an event caused: state and holder, if they differ from before (own).
use Rattle.std.specs.Prelude.{codes, ℕ, ◌==◌, ◌&&◌, if◌then◌else◌, Bool, true, false, List, [], ◌∷◌, ◌++◌, Option, Some, None}
use Rattle.std.specs.List.{flat_map}
use Rattle.std.specs.Fmt.{decimal}
use Rattle.dp_sap.specs.declared.state.State.{State}
use Rattle.dp_sap.specs.declared.state.State.TheVariants.{WaitPrm, WaitCfg, DataExch}
use Rattle.dp_telegram.specs.FrameText.{frame_of}
use Rattle.dp_slave.specs.declared.view.SlaveView.{SlaveView}
use Rattle.dp_line.specs.declared.event.Event.{Event}
use Rattle.dp_line.specs.declared.event.Event.TheVariants.{Request, Operator}
use Rattle.dp_line.specs.declared.event.Outcome.{Outcome}
use Rattle.dp_line.specs.declared.event.Outcome.TheVariants.{Released}
use Rattle.dp_line.specs.World.{World}
use Rattle.explain_events.specs.declared.sender_and_receiver.Receiver.{Receiver}
use Rattle.explain_events.specs.declared.sender_and_receiver.Receiver.TheVariants.{Slave, AllSlaves, Station, Nobody}
use Rattle.explain_events.specs.Heads.{receiver_of_frame}
use Rattle.explain_events.specs.Words.{holder_words, state_words}
use Rattle.explain_events.specs.Shown.{shown_at}

abbrev pub same_state : State → State → Bool
same_state WaitPrm WaitPrm = true
same_state WaitCfg WaitCfg = true
same_state DataExch DataExch = true
same_state before after = false

abbrev pub same_holder : Option ℕ → Option ℕ → Bool
same_holder None None = true
same_holder (Some before) (Some after) = before == after
same_holder before after = false

abbrev pub state_and_holder_words : SlaveView → List ℕ
state_and_holder_words slave = state_words slave.state ++ codes ", " ++ holder_words slave.holder

abbrev pub changed_words : ℕ → SlaveView → SlaveView → List ℕ
changed_words address before after = codes "slave " ++ decimal address ++ codes ": " ++ state_and_holder_words before ++ codes " -> " ++ state_and_holder_words after

abbrev pub changed_row : ℕ → SlaveView → SlaveView → List ℕ
changed_row address before after = codes "       change      " ++ changed_words address before after ++ codes "\n"

-- the row of a slave, before and after the event; no row if both are unchanged
abbrev pub change_row : ℕ → Option SlaveView → Option SlaveView → List ℕ
change_row address None after = []
change_row address (Some before) None = []
change_row address (Some before) (Some after) =
    if same_state before.state after.state && same_holder before.holder after.holder then []
    else changed_row address before after

abbrev pub change_of : World → World → ℕ → List ℕ
change_of before after address = change_row address (shown_at before address) (shown_at after address)

-- the slaves whose state and holder an event can change: the one that a request is sent to, and those that a tick or the halt released.
-- A Global_Control to all slaves changes neither of any
abbrev pub asked_addresses : Receiver → List ℕ
asked_addresses (Slave address) = address ∷ []
asked_addresses AllSlaves = []
asked_addresses (Station address) = []
asked_addresses Nobody = []

abbrev pub released_addresses : Outcome → List ℕ
released_addresses (Released addresses) = addresses.items
released_addresses outcome = []

abbrev pub touched : Event → Outcome → List ℕ
touched (Request master octets) outcome = asked_addresses (receiver_of_frame (frame_of octets.items))
touched (Operator op) outcome = released_addresses outcome

abbrev pub change_rows : World → World → Event → Outcome → List ℕ
change_rows before after event outcome = flat_map (change_of before after) (touched event outcome)
