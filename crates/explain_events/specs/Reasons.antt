-- detail
-- The facts of the answer of a slave, by its rule (own).
use Rattle.std.specs.Prelude.{ℕ, ◌==◌, if◌then◌else◌, Bool, List, length, slice_index, Option, Some, None}
use Rattle.std.specs.Option.{option_and_then, option_map_or}
use Rattle.dp_telegram.specs.declared.access.Parts.{Parts}
use Rattle.dp_telegram.specs.declared.frame.Telegram.{Telegram}
use Rattle.dp_telegram.specs.declared.function_code.Function.{Function}
use Rattle.dp_telegram.specs.Access.{parts_of}
use Rattle.dp_telegram.specs.FunctionCode.{function_of, asks_sdn, asks_unserved}
use Rattle.dp_prm.specs.declared.prm.Prm.{Prm}
use Rattle.dp_responder.specs.declared.rule.Rule.{Rule}
use Rattle.dp_responder.specs.declared.rule.Rule.TheVariants as rules
use Rattle.dp_slave.specs.declared.description.SlaveSpec.{SlaveSpec}
use Rattle.dp_slave.specs.declared.view.SlaveView.{SlaveView}
use Rattle.dp_line.specs.Hearing.{telegram_spelt}
use Rattle.dp_line.specs.World.{described_at}
use Rattle.dp_sap.specs.AccessTable.{is_in_table, same_point, data_exchange, global_control, set_prm, chk_cfg}
use Rattle.dp_sap.specs.declared.state.State.{State}
use Rattle.dp_sap.specs.declared.state.State.TheVariants.{WaitPrm}
use Rattle.explain_events.specs.Dones.{done_of}
use Rattle.explain_events.specs.declared.reason.Lengths.{Lengths}
use Rattle.explain_events.specs.declared.reason.Lengths.TheVariants as lengths
use Rattle.explain_events.specs.declared.reason.Listing.{Listing}
use Rattle.explain_events.specs.declared.reason.Listing.TheVariants.{Lockers, Readers}
use Rattle.explain_events.specs.declared.reason.Reason.{Reason}
use Rattle.explain_events.specs.declared.reason.Reason.TheVariants as reasons
use Rattle.explain_events.specs.declared.reason.Repeat.{Repeat}
use Rattle.explain_events.specs.declared.reason.Repeat.TheVariants as repeats
use Rattle.explain_events.specs.declared.reason.TakenService.{TakenService}
use Rattle.explain_events.specs.declared.reason.TakenService.TheVariants.{Sdn, Srd}
use Rattle.explain_events.specs.declared.releases.Release.{Release}
use Rattle.explain_events.specs.RequestsAtSlaves.{RequestAtSlaveView}
use Rattle.explain_events.specs.EventContexts.{EventContextView}
use Rattle.explain_events.specs.Notes.{has_octets, note_of, place_of_note}
use Rattle.explain_events.specs.Releases.{release_of}
use Rattle.explain_events.specs.Shown.{shown_at}

-- NoService: no slave has the function, or the point takes the other service
abbrev pub other_service : Function → Option TakenService
other_service function = if asks_unserved function then None else if asks_sdn function then Some Srd else Some Sdn

-- Repeat: a request with the same octets is a retry. Place 0 is that of a request before the text that is explained, of which nothing is known
abbrev pub repeated : Bool → ℕ → Option ℕ → Repeat
repeated is_same place point =
    if place == 0 then repeats.Unknown else if is_same then repeats.Retry place else repeats.Other place point

-- NotActive: a slave in Wait_Prm may have been released
abbrev pub since_release : State → Option Release → Option Release
since_release WaitPrm release = release
since_release state release = None

abbrev pub point_off : ℕ → State → Option Release → Option ℕ → Reason
point_off address state release point =
    if is_in_table point then reasons.PointOff address state (since_release state release) point else reasons.NoPoint address point

-- NotListed
abbrev pub list_at : Option ℕ → Listing
list_at point = if same_point point set_prm then Lockers else Readers

-- Length: at a slave with this number of outputs, cleared or not
abbrev pub data_lengths : ℕ → Bool → Lengths
data_lengths outputs cleared =
    if outputs == 0 then lengths.Nothing else if cleared then lengths.OrNothing outputs else lengths.Exactly outputs

abbrev pub lengths_at : Option ℕ → ℕ → Bool → Lengths
lengths_at point outputs cleared =
    if same_point point data_exchange then data_lengths outputs cleared
    else if same_point point global_control then lengths.Exactly 2
    else if same_point point set_prm then lengths.UpTo 244
    else if same_point point chk_cfg then lengths.UpTo 244
    else lengths.Nothing

-- the groups of a slave, by the parameters of its holder
abbrev pub group_in : Option Prm → ℕ
group_in prm = option_map_or (λ p. p.group) prm 0

-- ---- by the rule; a rule that concerns the line has no fact here

abbrev pub reason_of : RequestAtSlaveView → Rule → Option Reason
reason_of m rules.Status = Some (reasons.Status m.slave.address m.slave.state)
reason_of m rules.NoService = Some (reasons.NoService (other_service (function_of m.telegram.fc)) m.parts.dsap)
reason_of m rules.Repeat = Some (reasons.Repeat (repeated (has_octets m.noted m.octets) (place_of_note m.noted) m.parts.dsap))
reason_of m rules.NotActive = Some (point_off m.slave.address m.slave.state m.release m.parts.dsap)
reason_of m rules.NotHolder = Some (reasons.NotHolder m.slave.address m.slave.holder m.slave.since)
reason_of m rules.NotListed = Some (reasons.NotListed m.master (list_at m.parts.dsap))
reason_of m rules.Busy = Some (reasons.Busy m.parts.dsap)
reason_of m rules.Length =
    Some (reasons.Length (length m.parts.payload.items) (lengths_at m.parts.dsap (length m.slave.outputs.items) m.slave.cleared))
reason_of m rules.NotSelected = Some (reasons.NotSelected m.slave.address (slice_index m.parts.payload.items 1) (group_in m.slave.prm))
reason_of m rules.Done = Some (reasons.Done (done_of m))
reason_of m other = None

-- ---- the slave at an address

-- a request as it reaches a slave; None if the line has no such slave, or the access points of the telegram cannot be read
abbrev pub at_slave_by : EventContextView → ℕ → List ℕ → ℕ → Telegram → Option Parts → Option SlaveSpec → Option SlaveView → Option RequestAtSlaveView
at_slave_by context master octets address telegram (Some parts) (Some description) (Some slave) = Some (record {
  master = master;
  octets = octets;
  telegram = telegram;
  parts = parts;
  description = description;
  slave = slave;
  noted = note_of context.notes address master;
  release = release_of context.releases address;
})
at_slave_by context master octets address telegram parts description slave = None

abbrev pub at_slave_of_telegram : EventContextView → ℕ → List ℕ → ℕ → Option Telegram → Option RequestAtSlaveView
at_slave_of_telegram context master octets address None = None
at_slave_of_telegram context master octets address (Some telegram) =
    at_slave_by context master octets address telegram (parts_of telegram) (described_at context.description.slaves address) (shown_at context.world address)

-- octets that a master sent, as they reach the slave at this address
abbrev pub at_slave_of : EventContextView → ℕ → List ℕ → ℕ → Option RequestAtSlaveView
at_slave_of context master octets address = at_slave_of_telegram context master octets address (telegram_spelt octets)

-- the answer of the slave at this address to octets that a master sent
abbrev pub reason_at : EventContextView → ℕ → List ℕ → ℕ → Rule → Option Reason
reason_at context master octets address rule = option_and_then (λ at_slave. reason_of at_slave rule) (at_slave_of context master octets address)
