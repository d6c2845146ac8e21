-- detail
-- The way in which a request was answered: its rule, or what is known beyond the rule. And the ways and events that are faults of the bus (own).
use Rattle.std.specs.Prelude.{codes, ℕ, ◌==◌, ◌&&◌, ◌||◌, not, if◌then◌else◌, Bool, true, false, List, find, length, Option, Some, None}
use Rattle.std.specs.List.{list_any}
use Rattle.dp_telegram.specs.declared.access.Parts.{Parts}
use Rattle.dp_telegram.specs.declared.frame.Telegram.{Telegram}
use Rattle.dp_telegram.specs.Access.{address_of, parts_of}
use Rattle.dp_prm.specs.declared.prm.Prm.{Prm}
use Rattle.dp_sap.specs.AccessTable.{same_point, chk_cfg, global_control, set_prm}
use Rattle.dp_responder.specs.declared.rule.Rule.{Rule}
use Rattle.dp_responder.specs.declared.rule.Rule.TheVariants as rules
use Rattle.dp_responder.specs.Rules.{rule_name}
use Rattle.dp_slave.specs.declared.description.SlaveSpec.{SlaveSpec}
use Rattle.dp_slave.specs.declared.view.SlaveView.{SlaveView}
use Rattle.dp_slave.specs.Acts.{Control}
use Rattle.dp_slave.specs.Services.{control_of}
use Rattle.dp_line.specs.declared.event.Event.{Event}
use Rattle.dp_line.specs.declared.event.Event.TheVariants.{Request, Operator}
use Rattle.dp_line.specs.declared.event.Op.{Op}
use Rattle.dp_line.specs.declared.event.Op.TheVariants.{Tick}
use Rattle.dp_line.specs.declared.event.Outcome.{Outcome}
use Rattle.dp_line.specs.declared.event.Outcome.TheVariants.{Reply, Silence, Spread, Released, Done, Refused}
use Rattle.dp_line.specs.Hearing.{telegram_spelt}
use Rattle.dp_line.specs.Refusals.{is_live_list_poll}
use Rattle.dp_line.specs.World.{World, described_at, is_last_place}
use Rattle.explain_events.specs.declared.notes.Noted.{Noted}
use Rattle.explain_events.specs.declared.way.Answered.{Answered}
use Rattle.explain_events.specs.declared.way.Answered.TheVariants as ways
use Rattle.explain_events.specs.Notes.{has_octets, note_of, place_of_note}
use Rattle.explain_events.specs.EventContexts.{EventContextView}
use Rattle.explain_events.specs.Shown.{shown_at}
use Rattle.explain_events.specs.Surprises.{is_surprising_answer}
use Rattle.explain_events.specs.Services.{freeze_is_asked, has_wrong_configuration, has_wrong_parameters, sync_is_asked}

-- ---- the way

-- NoStation: an FDL status request looks for new stations (IEC 61158-4-3, request FDL status)
abbrev pub way_without_station : List ℕ → Answered
way_without_station octets = if is_live_list_poll octets rules.NoStation then ways.LiveListPoll else ways.ByRule rules.NoStation

-- Repeat: a retry has the octets of the request whose reply it gets. If this request came before the text that is explained, its octets are not known,
-- and the repeat counts as a retry
abbrev pub is_retry : Option Noted → List ℕ → Bool
is_retry noted octets = place_of_note noted == 0 || has_octets noted octets

abbrev pub way_of_repeat : List Noted → ℕ → List ℕ → Option Telegram → Answered
way_of_repeat notes master octets None = ways.OtherRepeat
way_of_repeat notes master octets (Some telegram) =
    if is_retry (note_of notes (address_of telegram.da) master) octets then ways.Retry else ways.OtherRepeat

-- Done: a slave acknowledges Set_Prm and Chk_Cfg before it judges them (IEC 61158-6-3, Set_Prm request and Chk_Cfg request)
abbrev pub way_of_service : SlaveSpec → Option ℕ → List ℕ → Answered
way_of_service slave point octets =
    if same_point point set_prm then (if has_wrong_parameters octets slave then ways.WrongSetPrm else ways.ByRule rules.Done)
    else if same_point point chk_cfg then (if has_wrong_configuration octets slave then ways.WrongChkCfg else ways.ByRule rules.Done)
    else ways.ByRule rules.Done

-- Global_Control: a Sync or Freeze for which the parameters did not ask does nothing (IEC 61158-6-3, Global_Control)
abbrev pub is_not_asked_for : Option Prm → Control → Bool
is_not_asked_for prm control =
    not control.unsync && (control.sync && not (sync_is_asked prm)) || not control.unfreeze && (control.freeze && not (freeze_is_asked prm))

abbrev pub way_of_control : Option SlaveView → List ℕ → Answered
way_of_control None octets = ways.ByRule rules.Done
way_of_control (Some slave) octets = if is_not_asked_for slave.prm (control_of octets) then ways.NotAskedFor else ways.ByRule rules.Done

abbrev pub way_of_parts : Option SlaveSpec → Option SlaveView → Option Parts → Answered
way_of_parts None slave parts = ways.ByRule rules.Done
way_of_parts (Some description) slave None = ways.ByRule rules.Done
way_of_parts (Some description) slave (Some parts) =
    if same_point parts.dsap global_control then way_of_control slave parts.payload.items
    else way_of_service description parts.dsap parts.payload.items

-- a telegram that the slave at this address did
abbrev pub way_of_done : EventContextView → ℕ → Option Telegram → Answered
way_of_done context address None = ways.ByRule rules.Done
way_of_done context address (Some telegram) =
    way_of_parts (described_at context.description.slaves address) (shown_at context.world address) (parts_of telegram)

abbrev pub way_where_asked : EventContextView → Option Telegram → Answered
way_where_asked context None = ways.ByRule rules.Done
way_where_asked context (Some telegram) = way_of_done context (address_of telegram.da) (Some telegram)

-- the way in which a request of a master with these octets was answered by this rule
abbrev pub answered_as : EventContextView → ℕ → List ℕ → Rule → Answered
answered_as context master octets rules.NoStation = way_without_station octets
answered_as context master octets rules.Repeat = way_of_repeat context.notes master octets (telegram_spelt octets)
answered_as context master octets rules.Done = way_where_asked context (telegram_spelt octets)
answered_as context master octets rules.NotSelected = ways.NoneSelected
answered_as context master octets other = ways.ByRule other

-- NotSelected in a request to all slaves: the command may be for other slaves, but it selects at least one, unless its group is wrong
abbrev pub is_selected : Rule → Bool
is_selected rules.NotSelected = false
is_selected other = true

abbrev pub way_in_spread : EventContextView → Option Telegram → Bool → ℕ → Rule → Answered
way_in_spread context telegram some address rules.NotSelected = if some then ways.ByRule rules.NotSelected else ways.NoneSelected
way_in_spread context telegram some address rules.Done = way_of_done context address telegram
way_in_spread context telegram some address other = ways.ByRule other

abbrev pub some_selected : List (ℕ × Rule) → Bool
some_selected pairs = list_any (λ pair. is_selected pair.1) pairs

-- the way in which one of the slaves that a request to all slaves reached answered it
abbrev pub way_of_pair : EventContextView → List ℕ → Bool → ℕ × Rule → Answered
way_of_pair context octets some pair = way_in_spread context (telegram_spelt octets) some pair.0 pair.1

-- the name of a way in a table
abbrev pub way_name : Answered → List ℕ
way_name (ways.ByRule rule) = rule_name rule
way_name ways.LiveListPoll = codes "live-list poll"
way_name ways.Retry = codes "Repeat (retry)"
way_name ways.OtherRepeat = codes "Repeat (other)"
way_name ways.WrongSetPrm = codes "wrong Set_Prm"
way_name ways.WrongChkCfg = codes "wrong Chk_Cfg"
way_name ways.NotAskedFor = codes "not asked for"
way_name ways.NoneSelected = codes "none selected"

-- the slave sends its reply before it finds the request wrong
abbrev pub is_judged_afterwards : Answered → Bool
is_judged_afterwards ways.WrongSetPrm = true
is_judged_afterwards ways.WrongChkCfg = true
is_judged_afterwards other = false

-- ---- faults of the bus

-- a rule that shows a fault on its own. A token is no fault, nor is a command for another group. Repeat shows no fault: it may be a retry
abbrev pub is_fault_rule : Rule → Bool
is_fault_rule rules.Halted = true
is_fault_rule rules.NoFrame = true
is_fault_rule rules.NoMaster = true
is_fault_rule rules.ForeignSender = true
is_fault_rule rules.Token = false
is_fault_rule rules.NotRequest = true
is_fault_rule rules.BadFunction = true
is_fault_rule rules.BadExtension = true
is_fault_rule rules.BadBroadcast = true
is_fault_rule rules.NoStation = true
is_fault_rule rules.Status = false
is_fault_rule rules.NoService = true
is_fault_rule rules.Repeat = false
is_fault_rule rules.NotActive = true
is_fault_rule rules.NotHolder = true
is_fault_rule rules.NotListed = true
is_fault_rule rules.Busy = true
is_fault_rule rules.Length = true
is_fault_rule rules.NotSelected = false
is_fault_rule rules.Done = false

abbrev pub is_fault_way : Answered → Bool
is_fault_way (ways.ByRule rule) = is_fault_rule rule
is_fault_way ways.LiveListPoll = false
is_fault_way ways.Retry = false
is_fault_way ways.OtherRepeat = true
is_fault_way ways.WrongSetPrm = true
is_fault_way ways.WrongChkCfg = true
is_fault_way ways.NotAskedFor = true
is_fault_way ways.NoneSelected = true

-- whether a slave that a request to all slaves reached answered it in such a way, and the first that did
abbrev pub shows_fault : EventContextView → List ℕ → List (ℕ × Rule) → ℕ × Rule → Bool
shows_fault context octets pairs pair = is_fault_way (way_of_pair context octets (some_selected pairs) pair)

abbrev pub has_fault : EventContextView → List ℕ → List (ℕ × Rule) → Bool
has_fault context octets pairs = list_any (shows_fault context octets pairs) pairs

abbrev pub first_fault : EventContextView → List ℕ → List (ℕ × Rule) → Option (ℕ × Rule)
first_fault context octets pairs = find (shows_fault context octets pairs) pairs

-- a request: its way, or what surprises in what a slave did; to all slaves, at least one of the ways, or that it reached no slave. If it
-- reached the last place, the halt was recorded instead
abbrev pub is_fault_of_request : EventContextView → ℕ → List ℕ → Outcome → Bool
is_fault_of_request context master octets (Reply reply rule) =
    is_fault_way (answered_as context master octets rule) || is_surprising_answer context master octets rule
is_fault_of_request context master octets (Silence rule) = is_fault_way (answered_as context master octets rule)
is_fault_of_request context master octets Done = is_fault_way (answered_as context master octets rules.Done)
is_fault_of_request context master octets (Spread pairs) = length pairs.items == 0 || has_fault context octets pairs.items
is_fault_of_request context master octets (Released addresses) = true
is_fault_of_request context master octets (Refused fault) = false

-- an event of the operator that released slaves: a tick, if there is one; the halt, also one that was recorded instead of another event
abbrev pub is_fault_of_release : World → Op → List ℕ → Bool
is_fault_of_release world (Tick units) addresses = is_last_place world || not (length addresses == 0)
is_fault_of_release world op addresses = true

-- an event of the operator: one that was refused, or such a release
abbrev pub is_fault_of_op : World → Op → Outcome → Bool
is_fault_of_op world op (Released addresses) = is_fault_of_release world op addresses.items
is_fault_of_op world op (Refused fault) = true
is_fault_of_op world op outcome = false

abbrev pub is_fault : EventContextView → Event → Outcome → Bool
is_fault context (Request master octets) outcome = is_fault_of_request context master octets.items outcome
is_fault context (Operator op) outcome = is_fault_of_op context.world op outcome
