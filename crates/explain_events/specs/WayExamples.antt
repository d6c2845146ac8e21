-- helper
-- Examples of notes, of ways in which requests were answered, and of faults.
use Rattle.std.specs.Prelude.{◌≡◌, ℕ, List, [], ◌∷◌, true, false, codes, Some, None, refl}
use Rattle.dp_sap.specs.declared.state.State.TheVariants.{DataExch}
use Rattle.dp_responder.specs.declared.rule.Rule.{Rule}
use Rattle.dp_responder.specs.declared.rule.Rule.TheVariants as rules
use Rattle.dp_line.specs.declared.event.Event.TheVariants.{Operator}
use Rattle.dp_line.specs.declared.event.Op.TheVariants.{Busy, Tick, Halt}
use Rattle.dp_line.specs.declared.event.Outcome.{Outcome}
use Rattle.dp_line.specs.declared.event.Outcome.TheVariants.{Silence, Spread, Released, Done, Refused}
use Rattle.dp_line.specs.declared.fault.OperatorFault.TheVariants as faults
use Rattle.dp_line.specs.LineExamples.{acknowledged, ask, check, exchange, fresh, inputs, lock, no_inputs, read_diagnosis, reply, slave_5}
use Rattle.dp_slave.specs.SlaveRecord.{starting_slave}
use Rattle.dp_slave.specs.View.{view_of}
use Rattle.dp_slave.specs.declared.view.SlaveView.{SlaveView}
use Rattle.explain_events.specs.declared.ending.Ending.TheVariants as endings
use Rattle.explain_events.specs.declared.notes.Noted.{Noted}
use Rattle.explain_events.specs.declared.way.Answered.TheVariants as ways
use Rattle.explain_octets.specs.Replies.{reply_text}
use Rattle.explain_events.specs.ExplainedEntries.{reply_row}
use Rattle.explain_events.specs.Releases.{first_releases, release_of}
use Rattle.explain_events.specs.Results.{fault_in_spread}
use Rattle.explain_events.specs.ReleaseChanges.{change_noted}
use Rattle.explain_events.specs.Notes.{first_notes, has_octets, note_of, notes_after, place_noted}
use Rattle.explain_events.specs.EventContexts.{EventContextView}
use Rattle.explain_events.specs.Ways.{answered_as, first_fault, is_fault, way_name, way_of_pair}

-- ---- notes

-- at first, of slaves 5 and 7 and masters 1 and 2; and after entry 13, a Chk_Cfg of master 1
abbrev unused : List Noted
unused = first_notes (5 ∷ 7 ∷ []) (1 ∷ 2 ∷ [])

abbrev used : List Noted
used = notes_after unused 13 (ask 1 check) (reply acknowledged rules.Done)

pub the_entry_is_noted : place_noted used 5 1 ≡ 13
the_entry_is_noted = refl

pub its_octets_are_noted : has_octets (note_of used 5 1) check ≡ true
its_octets_are_noted = refl

pub another_master_has_no_note : place_noted used 5 2 ≡ 0
another_master_has_no_note = refl

pub another_slave_has_no_note : place_noted used 7 1 ≡ 0
another_slave_has_no_note = refl

pub a_later_entry_is_noted : place_noted (notes_after used 14 (ask 1 exchange) (reply no_inputs rules.Done)) 5 1 ≡ 14
a_later_entry_is_noted = refl

pub a_repeat_is_not_noted : notes_after used 14 (ask 1 exchange) (reply acknowledged rules.Repeat) ≡ used
a_repeat_is_not_noted = refl

pub silence_is_not_noted : notes_after used 14 (ask 1 exchange) (Silence rules.NotHolder) ≡ used
silence_is_not_noted = refl

-- ---- releases

-- slave 5 while master 1 held it, and when nobody does; entry 6 released it
abbrev held : SlaveView
held = record (view_of (starting_slave (1 ∷ 2 ∷ []) slave_5)) { state = DataExch; holder = Some 1; since = 2 }

abbrev freed : SlaveView
freed = view_of (starting_slave (1 ∷ 2 ∷ []) slave_5)

pub a_release_is_noted : release_of (change_noted 6 (Operator (Tick 1)) 5 (Some held) (Some freed) first_releases) 5 ≡ Some (record { place = 6; ending = endings.Watchdog })
a_release_is_noted = refl

pub a_lock_is_no_release : change_noted 6 (ask 1 lock) 5 (Some freed) (Some held) first_releases ≡ first_releases
a_lock_is_no_release = refl

pub no_change_is_no_release : change_noted 6 (ask 1 exchange) 5 (Some held) (Some held) first_releases ≡ first_releases
no_change_is_no_release = refl

-- ---- ways

abbrev context : EventContextView
context = record {
  description = record { number = 1; capacity = 1000; masters = 1 ∷ 2 ∷ []; slaves = slave_5 ∷ [] };
  world = fresh;
  notes = used;
  releases = first_releases;
  time = None;
}

-- FDL status of station 9, and an SRD to it
abbrev poll : List ℕ
poll = 0x10 ∷ 0x09 ∷ 0x01 ∷ 0x49 ∷ 0x53 ∷ 0x16 ∷ []

abbrev stray : List ℕ
stray = 0x10 ∷ 0x09 ∷ 0x01 ∷ 0x5C ∷ 0x66 ∷ 0x16 ∷ []

-- a Set_Prm with ident number 80A2, and a Chk_Cfg with only one identifier
abbrev wrong_lock : List ℕ
wrong_lock = 0x68 ∷ 0x0C ∷ 0x0C ∷ 0x68 ∷ 0x85 ∷ 0x81 ∷ 0x7D ∷ 0x3D ∷ 0x3E ∷ 0x88 ∷ 0x02 ∷ 0x05 ∷ 0x0B ∷ 0x80 ∷ 0xA2 ∷ 0x01 ∷ 0xBB ∷ 0x16 ∷ []

abbrev wrong_check : List ℕ
wrong_check = 0x68 ∷ 0x06 ∷ 0x06 ∷ 0x68 ∷ 0x85 ∷ 0x81 ∷ 0x7D ∷ 0x3E ∷ 0x3E ∷ 0x21 ∷ 0x20 ∷ 0x16 ∷ []

pub a_live_list_poll : answered_as context 1 poll rules.NoStation ≡ ways.LiveListPoll
a_live_list_poll = refl

pub a_stray_request : answered_as context 1 stray rules.NoStation ≡ ways.ByRule rules.NoStation
a_stray_request = refl

pub a_retry : answered_as context 1 check rules.Repeat ≡ ways.Retry
a_retry = refl

pub another_telegram : answered_as context 1 exchange rules.Repeat ≡ ways.OtherRepeat
another_telegram = refl

-- the repeat of a request that is not noted, as at the start of a part of a text
pub a_repeat_of_an_earlier_request : answered_as (record context { notes = unused }) 1 exchange rules.Repeat ≡ ways.Retry
a_repeat_of_an_earlier_request = refl

pub wrong_parameters : answered_as context 1 wrong_lock rules.Done ≡ ways.WrongSetPrm
wrong_parameters = refl

pub right_parameters : answered_as context 1 lock rules.Done ≡ ways.ByRule rules.Done
right_parameters = refl

pub a_wrong_configuration : answered_as context 1 wrong_check rules.Done ≡ ways.WrongChkCfg
a_wrong_configuration = refl

pub a_right_configuration : answered_as context 1 check rules.Done ≡ ways.ByRule rules.Done
a_right_configuration = refl

pub a_diagnosis : answered_as context 1 read_diagnosis rules.Done ≡ ways.ByRule rules.Done
a_diagnosis = refl

-- Sync for every slave, to all slaves. Slave 5 has no parameters, which could ask for Sync
abbrev sync : List ℕ
sync = 0x68 ∷ 0x07 ∷ 0x07 ∷ 0x68 ∷ 0xFF ∷ 0x81 ∷ 0x46 ∷ 0x3A ∷ 0x3E ∷ 0x20 ∷ 0x00 ∷ 0x5E ∷ 0x16 ∷ []

pub a_sync_not_asked_for : way_of_pair context sync true (5, rules.Done) ≡ ways.NotAskedFor
a_sync_not_asked_for = refl

pub a_command_for_another_group : way_of_pair context sync true (5, rules.NotSelected) ≡ ways.ByRule rules.NotSelected
a_command_for_another_group = refl

pub a_command_for_no_slave : way_of_pair context sync false (5, rules.NotSelected) ≡ ways.NoneSelected
a_command_for_no_slave = refl

pub a_refusal : answered_as context 1 wrong_lock rules.NotListed ≡ ways.ByRule rules.NotListed
a_refusal = refl

pub name_of_a_refusal : way_name (ways.ByRule rules.NotListed) ≡ codes "NotListed"
name_of_a_refusal = refl

pub name_of_a_retry : way_name ways.Retry ≡ codes "Repeat (retry)"
name_of_a_retry = refl

-- a short acknowledgement comes before the slave judges the request
pub wrong_parameters_are_acknowledged :
    reply_row context (ask 1 wrong_lock) (reply acknowledged rules.Done) ≡ codes "       reply       SC, short acknowledgement (judged afterwards)\n"
unfolding reply_text
wrong_parameters_are_acknowledged = refl

pub right_parameters_are_acknowledged :
    reply_row context (ask 1 lock) (reply acknowledged rules.Done) ≡ codes "       reply       SC, short acknowledgement\n"
unfolding reply_text
right_parameters_are_acknowledged = refl

-- ---- faults

pub a_retry_is_no_fault : is_fault context (ask 1 check) (reply acknowledged rules.Repeat) ≡ false
a_retry_is_no_fault = refl

pub another_telegram_is_a_fault : is_fault context (ask 1 exchange) (reply acknowledged rules.Repeat) ≡ true
another_telegram_is_a_fault = refl

pub a_repeat_of_an_earlier_request_is_no_fault : is_fault (record context { notes = unused }) (ask 1 exchange) (reply acknowledged rules.Repeat) ≡ false
a_repeat_of_an_earlier_request_is_no_fault = refl

pub a_poll_is_no_fault : is_fault context (ask 1 poll) (Silence rules.NoStation) ≡ false
a_poll_is_no_fault = refl

pub a_stray_request_is_a_fault : is_fault context (ask 1 stray) (Silence rules.NoStation) ≡ true
a_stray_request_is_a_fault = refl

pub wrong_parameters_are_a_fault : is_fault context (ask 1 wrong_lock) (reply acknowledged rules.Done) ≡ true
wrong_parameters_are_a_fault = refl

abbrev spread : List (ℕ × Rule) → Outcome
spread pairs = Spread (record { items = pairs })

pub another_group_is_no_fault : is_fault context (ask 1 stray) (spread ((5, rules.NotSelected) ∷ (7, rules.Done) ∷ [])) ≡ false
another_group_is_no_fault = refl

pub one_of_all_slaves_is_a_fault : is_fault context (ask 1 stray) (spread ((5, rules.NotSelected) ∷ (7, rules.Busy) ∷ [])) ≡ true
one_of_all_slaves_is_a_fault = refl

pub a_group_of_no_slave_is_a_fault : is_fault context (ask 1 stray) (spread ((5, rules.NotSelected) ∷ (7, rules.NotSelected) ∷ [])) ≡ true
a_group_of_no_slave_is_a_fault = refl

pub a_command_to_no_slave_is_a_fault : is_fault context (ask 1 stray) (spread []) ≡ true
a_command_to_no_slave_is_a_fault = refl

pub the_first_fault : first_fault context sync ((7, rules.NotSelected) ∷ (5, rules.Done) ∷ (9, rules.Busy) ∷ []) ≡ Some (5, rules.Done)
the_first_fault = refl

pub the_result_names_a_group_of_no_slave : fault_in_spread context stray ((5, rules.NotSelected) ∷ (7, rules.NotSelected) ∷ []) ≡ codes "; none selected"
the_result_names_a_group_of_no_slave = refl

pub the_result_names_no_fault : fault_in_spread context stray ((5, rules.NotSelected) ∷ (7, rules.Done) ∷ []) ≡ []
the_result_names_no_fault = refl

abbrev released : List ℕ → Outcome
released addresses = Released (record { items = addresses })

pub a_tick_is_no_fault : is_fault context (Operator (Tick 1)) (released []) ≡ false
a_tick_is_no_fault = refl

pub a_watchdog_is_a_fault : is_fault context (Operator (Tick 1)) (released (5 ∷ [])) ≡ true
a_watchdog_is_a_fault = refl

-- only the last place is left, and the halt is recorded instead of the event
abbrev last_context : EventContextView
last_context = record context { world = record fresh { count = 999 } }

pub a_tick_at_the_last_place_is_a_fault : is_fault last_context (Operator (Tick 1)) (released []) ≡ true
a_tick_at_the_last_place_is_a_fault = refl

pub a_request_at_the_last_place_is_a_fault : is_fault last_context (ask 1 check) (released []) ≡ true
a_request_at_the_last_place_is_a_fault = refl

pub a_halt_is_a_fault : is_fault context (Operator Halt) (released []) ≡ true
a_halt_is_a_fault = refl

pub a_refused_event_is_a_fault : is_fault context (Operator (Busy 9 None true)) (Refused faults.NoStation) ≡ true
a_refused_event_is_a_fault = refl

pub inputs_are_no_fault : is_fault context (inputs 5 (1 ∷ 2 ∷ [])) Done ≡ false
inputs_are_no_fault = refl
