-- helper
-- Examples of facts and of sentences.
use Rattle.std.specs.Prelude.{◌≡◌, ⊤, ℕ, List, [], ◌∷◌, Option, true, false, codes, Some, None, refl}
use Rattle.std.specs.Fmt.{digits}
use Rattle.dp_telegram.specs.declared.frame.Frame.{Frame}
use Rattle.dp_telegram.specs.declared.frame.Frame.TheVariants as frames
use Rattle.dp_telegram.specs.Access.{request_of, request_parts}
use Rattle.dp_sap.specs.AccessTable.{data_exchange}
use Rattle.dp_sap.specs.declared.state.State.TheVariants.{WaitPrm, WaitCfg, DataExch}
use Rattle.dp_responder.specs.declared.rule.Rule.TheVariants as rules
use Rattle.dp_slave.specs.declared.description.SlaveSpec.{SlaveSpec}
use Rattle.dp_slave.specs.SlaveRecord.{starting_slave}
use Rattle.dp_slave.specs.View.{view_of}
use Rattle.dp_slave.specs.declared.view.SlaveView.{SlaveView}
use Rattle.dp_line.specs.LineExamples.{ask, slave_5}
use Rattle.explain_events.specs.declared.ending.Ending.TheVariants as endings
use Rattle.explain_events.specs.declared.done.CfgDone.TheVariants as cfg_dones
use Rattle.explain_events.specs.declared.done.Done.TheVariants as dones
use Rattle.explain_events.specs.declared.done.ModeAct.TheVariants as mode_acts
use Rattle.explain_events.specs.declared.done.PrmDone.TheVariants as prm_dones
use Rattle.explain_events.specs.declared.reason.Lengths.TheVariants as lengths
use Rattle.explain_events.specs.declared.reason.Reason.TheVariants as reasons
use Rattle.explain_events.specs.declared.reason.Repeat.TheVariants as again
use Rattle.explain_events.specs.declared.reason.Listing.TheVariants.{Lockers}
use Rattle.explain_events.specs.RequestsAtSlaves.{RequestAtSlaveView}
use Rattle.explain_events.specs.Notes.{unnoted}
use Rattle.dp_line.specs.declared.event.Event.TheVariants.{Operator}
use Rattle.dp_line.specs.declared.event.Op.TheVariants.{Busy, Tick}
use Rattle.explain_octets.specs.Kinds.{asked_text, kind_text, telegram_text}
use Rattle.explain_octets.specs.Words.{groups_text, is_one_group, listed}
use Rattle.explain_events.specs.Heads.{head_text, op_kind_text}
use Rattle.explain_events.specs.Reasons.{lengths_at, reason_of}
use Rattle.explain_events.specs.Refusals.{length_text, no_point_text, not_listed_text, not_selected_text, point_off_text}
use Rattle.explain_events.specs.Services.{acts_words, user_parameters_text}
use Rattle.explain_events.specs.Results.{halt_text}
use Rattle.explain_events.specs.Sentences.{line_text, slave_text}

-- the definitions that are unfolded to compute a sentence
unfoldable sentence_on_literals : ⊤
unfolding digits acts_words groups_text is_one_group listed
sentence_on_literals = tt

-- slave 5 when nobody holds it, and when master 1 holds it since entry 2, in Data_Exch
abbrev free : SlaveView
free = view_of (starting_slave (1 ∷ 2 ∷ []) slave_5)

abbrev held : SlaveView
held = record free { state = DataExch; holder = Some 1; since = 2; cfg = Some 0 }

-- a master's SRD with these octets to a point of the slave with this description; no request of it is noted
abbrev asks_at : SlaveSpec → SlaveView → Option ℕ → List ℕ → RequestAtSlaveView
asks_at description slave point octets = record {
  master = 2;
  octets = 1 ∷ 2 ∷ 3 ∷ [];
  telegram = request_of 5 2 0x6D point (Some 62) octets;
  parts = request_parts point (Some 62) octets;
  description = description;
  slave = slave;
  noted = None;
  release = None;
}

abbrev asks : SlaveSpec → SlaveView → ℕ → List ℕ → RequestAtSlaveView
asks description slave point octets = asks_at description slave (Some point) octets

-- the same, after an entry 7 of a request whose frame had these octets
abbrev repeats : List ℕ → Option ℕ → List ℕ → RequestAtSlaveView
repeats noted point octets =
    record (asks_at slave_5 held point octets) { noted = Some (record { slave = 5; master = 2; place = 7; octets = record { items = noted } }) }

-- ---- facts

pub the_holder : reason_of (asks slave_5 held 61 []) rules.NotHolder ≡ Some (reasons.NotHolder 5 (Some 1) 2)
the_holder = refl

pub the_last_release :
    reason_of (record (asks_at slave_5 free data_exchange []) { release = Some (record { place = 6; ending = endings.Unlocked }) }) rules.NotActive
    ≡ Some (reasons.PointOff 5 WaitPrm (Some (record { place = 6; ending = endings.Unlocked })) data_exchange)
the_last_release = refl

pub no_release_of_a_held_slave :
    reason_of (record (asks slave_5 (record held { state = WaitCfg }) 61 []) { release = Some (record { place = 6; ending = endings.Unlocked }) }) rules.NotActive
    ≡ Some (reasons.PointOff 5 WaitCfg None (Some 61))
no_release_of_a_held_slave = refl

pub the_unknown_point : reason_of (asks slave_5 free 12 []) rules.NotActive ≡ Some (reasons.NoPoint 5 (Some 12))
the_unknown_point = refl

pub the_taken_lengths : reason_of (asks_at slave_5 held data_exchange (1 ∷ 2 ∷ 3 ∷ [])) rules.Length ≡ Some (reasons.Length 3 (lengths.Exactly 2))
the_taken_lengths = refl

pub the_lengths_of_a_cleared_slave : lengths_at data_exchange 2 true ≡ lengths.OrNothing 2
the_lengths_of_a_cleared_slave = refl

pub the_groups : reason_of (asks slave_5 held 58 (0x20 ∷ 0x82 ∷ [])) rules.NotSelected ≡ Some (reasons.NotSelected 5 0x82 0)
the_groups = refl

pub the_retry : reason_of (repeats (1 ∷ 2 ∷ 3 ∷ []) (Some 60) []) rules.Repeat ≡ Some (reasons.Repeat (again.Retry 7))
the_retry = refl

pub the_other_telegram :
    reason_of (repeats (1 ∷ 2 ∷ 4 ∷ []) data_exchange (3 ∷ 4 ∷ [])) rules.Repeat ≡ Some (reasons.Repeat (again.Other 7 data_exchange))
the_other_telegram = refl

pub the_lock :
    reason_of (asks slave_5 free 61 (0x88 ∷ 2 ∷ 5 ∷ 11 ∷ 0x80 ∷ 0xA1 ∷ 0 ∷ [])) rules.Done
    ≡ Some (reasons.Done (dones.Parameters (prm_dones.Locked 5 2 11)))
the_lock = refl

pub the_wrong_ident :
    reason_of (asks slave_5 held 61 (0x88 ∷ 2 ∷ 5 ∷ 11 ∷ 0x80 ∷ 0xA2 ∷ 0 ∷ [])) rules.Done
    ≡ Some (reasons.Done (dones.Parameters (prm_dones.Wrong (Some 1))))
the_wrong_ident = refl

pub the_configuration :
    reason_of (asks slave_5 held 62 (0x21 ∷ 0x11 ∷ [])) rules.Done ≡ Some (reasons.Done (dones.Configuration (cfg_dones.Good 0 0)))
the_configuration = refl

pub the_modes :
    reason_of (asks slave_5 held 58 (0x36 ∷ 0x00 ∷ [])) rules.Done
    ≡ Some (reasons.Done (dones.Control (record { clears = true; unsyncs = true; sync = mode_acts.BesideItsEnd; unfreezes = true; freeze = mode_acts.NotSent })))
the_modes = refl

-- ---- refusals

pub a_stranger : slave_text false (asks slave_5 held 61 []) rules.NotHolder ≡ codes "refused: NotHolder. Master 1 holds slave 5 since entry 2."
unfolding sentence_on_literals
a_stranger = refl

pub by_an_sdn : slave_text true (asks slave_5 held 61 []) rules.NotHolder ≡ codes "refused in silence: NotHolder. Master 1 holds slave 5 since entry 2."
unfolding sentence_on_literals
by_an_sdn = refl

pub a_point_that_is_off : point_off_text 5 WaitPrm None data_exchange ≡ codes "Slave 5 is in Wait_Prm, where Data_Exchange is off."
unfolding sentence_on_literals
a_point_that_is_off = refl

pub a_point_that_is_off_after_a_release :
    point_off_text 5 WaitPrm (Some (record { place = 6; ending = endings.Unlocked })) data_exchange
    ≡ codes "Slave 5 is in Wait_Prm since entry 6 (unlocked), where Data_Exchange is off."
unfolding sentence_on_literals
a_point_that_is_off_after_a_release = refl

pub a_point_that_is_off_under_a_holder :
    point_off_text 5 WaitCfg None data_exchange
    ≡ codes "Slave 5 is in Wait_Cfg, where Data_Exchange is off."
unfolding sentence_on_literals
a_point_that_is_off_under_a_holder = refl

pub a_point_outside_the_table : no_point_text 5 (Some 12) ≡ codes "Slave 5 has no DSAP 12."
unfolding sentence_on_literals
a_point_outside_the_table = refl

pub a_point_of_dp_v1 : no_point_text 5 (Some 51) ≡ codes "Slave 5 has no DSAP 51 (MSAC_C1, DP-V1: not simulated)."
unfolding sentence_on_literals
a_point_of_dp_v1 = refl

pub a_busy_point : op_kind_text (Busy 5 (Some 55) true) ≡ codes "DSAP 55 (Set_Slave_Add: not simulated) busy"
unfolding sentence_on_literals
a_busy_point = refl

pub no_locker :
    not_listed_text 2 Lockers (record { lockers = Some (record { items = 1 ∷ 3 ∷ [] }); readers = None })
    ≡ codes "Master 2 is none of its lockers (1, 3)."
unfolding sentence_on_literals
no_locker = refl

pub a_wrong_length : length_text 3 (lengths.Exactly 2) ≡ codes "3 octets, the slave takes 2."
unfolding sentence_on_literals
a_wrong_length = refl

pub a_wrong_length_at_a_cleared_slave : length_text 1 (lengths.OrNothing 2) ≡ codes "1 octet, the slave takes 2 or none."
unfolding sentence_on_literals
a_wrong_length_at_a_cleared_slave = refl

pub no_data_at_a_cleared_slave_without_outputs : length_text 3 lengths.Nothing ≡ codes "3 octets, the slave takes none."
unfolding sentence_on_literals
no_data_at_a_cleared_slave_without_outputs = refl

pub other_groups : not_selected_text 5 2 5 ≡ codes "The command is for group 2 (Group_Select 02), slave 5 is in groups 1, 3 (Group_Ident 05)."
unfolding sentence_on_literals
other_groups = refl

pub without_groups :
    slave_text true (asks slave_5 held 58 (0x20 ∷ 0x82 ∷ [])) rules.NotSelected
    ≡ codes "silence: NotSelected. The command is for groups 2, 8 (Group_Select 82), slave 5 is in no group (Group_Ident 00)."
unfolding sentence_on_literals
without_groups = refl

-- ---- repeats

pub a_retry : slave_text false (repeats (1 ∷ 2 ∷ 3 ∷ []) (Some 60) []) rules.Repeat ≡ codes "retry of entry 7: its reply is sent again."
unfolding sentence_on_literals
a_retry = refl

pub other_outputs :
    slave_text false (repeats (1 ∷ 2 ∷ 4 ∷ []) data_exchange (3 ∷ 4 ∷ [])) rules.Repeat
    ≡ codes "repeat: FCB as in entry 7, but another telegram: outputs 03 04 not taken."
unfolding sentence_on_literals
other_outputs = refl

pub no_outputs :
    slave_text false (repeats (1 ∷ 2 ∷ []) data_exchange []) rules.Repeat
    ≡ codes "repeat: FCB as in entry 7, but another telegram: Data_Exchange not done."
unfolding sentence_on_literals
no_outputs = refl

pub another_service :
    slave_text false (repeats (1 ∷ 2 ∷ 3 ∷ 4 ∷ []) (Some 60) []) rules.Repeat
    ≡ codes "repeat: FCB as in entry 7, but another telegram: Slave_Diag not done."
unfolding sentence_on_literals
another_service = refl

pub another_configuration :
    slave_text false (repeats [] (Some 62) (0x21 ∷ [])) rules.Repeat
    ≡ codes "repeat: FCB as in entry 7, but another telegram: Chk_Cfg not done."
unfolding sentence_on_literals
another_configuration = refl

-- no request is noted, as at the start of a part of a text
pub of_an_earlier_request :
    slave_text false (asks_at slave_5 held data_exchange (3 ∷ 4 ∷ [])) rules.Repeat
    ≡ codes "repeat: the reply to an earlier request is sent again."
unfolding sentence_on_literals
of_an_earlier_request = refl

pub of_a_request_without_a_place :
    slave_text false (record (asks_at slave_5 held data_exchange (3 ∷ 4 ∷ [])) { noted = Some (unnoted 5 2) }) rules.Repeat
    ≡ codes "repeat: the reply to an earlier request is sent again."
unfolding sentence_on_literals
of_a_request_without_a_place = refl

-- ---- Set_Prm

pub a_lock : slave_text false (asks slave_5 free 61 (0x88 ∷ 2 ∷ 5 ∷ 11 ∷ 0x80 ∷ 0xA1 ∷ 0 ∷ [])) rules.Done ≡ codes "locked: master 2 holds slave 5."
unfolding sentence_on_literals
a_lock = refl

pub another_ident :
    slave_text false (asks slave_5 held 61 (0x88 ∷ 2 ∷ 5 ∷ 11 ∷ 0x80 ∷ 0xA2 ∷ 0 ∷ [])) rules.Done
    ≡ codes "wrong parameters: ident 80A2, the slave has 80A1. Released."
unfolding sentence_on_literals
another_ident = refl

-- three reasons in one request, at a slave that nobody holds
pub several_reasons :
    slave_text false (asks (record slave_5 { sync = false; user_max = 1 }) free 61 (0xA8 ∷ 0 ∷ 5 ∷ 11 ∷ 0x80 ∷ 0xA1 ∷ 0 ∷ 1 ∷ 2 ∷ [])) rules.Done
    ≡ codes "wrong parameters: watchdog time 0; Sync_Req, the slave has no Sync; 2 user parameters, the slave takes 1."
unfolding sentence_on_literals
several_reasons = refl

pub one_user_parameter : user_parameters_text 1 0 ≡ codes "1 user parameter, the slave takes 0"
unfolding sentence_on_literals
one_user_parameter = refl

pub too_short : slave_text false (asks slave_5 free 61 (0x88 ∷ 2 ∷ 5 ∷ [])) rules.Done ≡ codes "wrong parameters: 3 octets, at least 7."
unfolding sentence_on_literals
too_short = refl

pub a_lock_again :
    slave_text false (record (asks slave_5 held 61 (0x88 ∷ 2 ∷ 5 ∷ 11 ∷ 0x80 ∷ 0xA1 ∷ 0 ∷ [])) { master = 1 }) rules.Done
    ≡ codes "locked again: master 1 holds slave 5 since entry 2."
unfolding sentence_on_literals
a_lock_again = refl

pub an_unlock :
    slave_text false (asks slave_5 held 61 (0x40 ∷ 0 ∷ 0 ∷ 0 ∷ 0 ∷ 0 ∷ 0 ∷ [])) rules.Done ≡ codes "unlocked: slave 5 is released."
unfolding sentence_on_literals
an_unlock = refl

pub min_tsdr_alone : slave_text false (asks slave_5 held 61 (0 ∷ 0 ∷ 0 ∷ 20 ∷ 0 ∷ 0 ∷ 0 ∷ [])) rules.Done ≡ codes "done: min TSDR is 20."
unfolding sentence_on_literals
min_tsdr_alone = refl

pub without_a_lock :
    slave_text false (asks slave_5 free 61 (0 ∷ 0 ∷ 0 ∷ 20 ∷ 0 ∷ 0 ∷ 0 ∷ [])) rules.Done
    ≡ codes "done: min TSDR is 20. Lock_Req is missing: nobody holds the slave."
unfolding sentence_on_literals
without_a_lock = refl

pub a_lock_beside_an_unlock :
    slave_text false (asks slave_5 held 61 (0xC0 ∷ 0 ∷ 0 ∷ 0 ∷ 0 ∷ 0 ∷ 0 ∷ [])) rules.Done
    ≡ codes "unlocked: slave 5 is released. Lock_Req does nothing beside Unlock_Req."
unfolding sentence_on_literals
a_lock_beside_an_unlock = refl

pub a_low_min_tsdr :
    slave_text false (asks slave_5 free 61 (0x88 ∷ 2 ∷ 5 ∷ 5 ∷ 0x80 ∷ 0xA1 ∷ 0 ∷ [])) rules.Done
    ≡ codes "locked: master 2 holds slave 5. Min TSDR is below 11."
unfolding sentence_on_literals
a_low_min_tsdr = refl

-- ---- Chk_Cfg

pub a_good_configuration : slave_text false (asks slave_5 held 62 (0x21 ∷ 0x11 ∷ [])) rules.Done ≡ codes "good configuration: number 0."
unfolding sentence_on_literals
a_good_configuration = refl

-- the slave has one configuration, 21 11
pub another_slot :
    slave_text false (asks slave_5 held 62 (0x21 ∷ 0x20 ∷ [])) rules.Done
    ≡ codes "wrong configuration: slot 2 is 20, the slave has 11. Released."
unfolding sentence_on_literals
another_slot = refl

pub a_missing_slot :
    slave_text false (asks slave_5 held 62 (0x21 ∷ [])) rules.Done ≡ codes "wrong configuration: slot 2, 11, is missing. Released."
unfolding sentence_on_literals
a_missing_slot = refl

pub an_additional_slot :
    slave_text false (asks slave_5 held 62 (0x21 ∷ 0x11 ∷ 0x40 ∷ 0xC3 ∷ [])) rules.Done
    ≡ codes "wrong configuration: slot 3, 40 c3, is not in the slave. Released."
unfolding sentence_on_literals
an_additional_slot = refl

-- an identifier of four octets is one slot; nobody holds the slave
pub several_slots :
    slave_text false (asks slave_5 free 62 (0xC1 ∷ 0x01 ∷ 0x03 ∷ 0x00 ∷ 0x12 ∷ 0x31 ∷ [])) rules.Done
    ≡ codes "wrong configuration: slot 1 is c1 01 03 00, the slave has 21; slot 2 is 12, the slave has 11; slot 3, 31, is not in the slave."
unfolding sentence_on_literals
several_slots = refl

pub no_slot :
    slave_text false (asks slave_5 free 62 []) rules.Done ≡ codes "wrong configuration: slot 1, 21, is missing; slot 2, 11, is missing."
unfolding sentence_on_literals
no_slot = refl

pub a_cut_configuration :
    slave_text false (asks slave_5 held 62 (0x21 ∷ 0xC1 ∷ 0x01 ∷ [])) rules.Done
    ≡ codes "wrong configuration: the slave has 21 11. Released."
unfolding sentence_on_literals
a_cut_configuration = refl

pub none_of_several_configurations :
    slave_text false (asks (record slave_5 { cfgs = record { items = record { items = 0x21 ∷ 0x11 ∷ [] } ∷ record { items = 0x31 ∷ [] } ∷ [] } }) held 62 (0x21 ∷ [])) rules.Done
    ≡ codes "wrong configuration: the slave has 21 11 or 31. Released."
unfolding sentence_on_literals
none_of_several_configurations = refl

-- ---- Global_Control

-- Unsync takes precedence over Sync
pub several_acts :
    slave_text true (asks slave_5 held 58 (0x36 ∷ 0x00 ∷ [])) rules.Done
    ≡ codes "done: outputs cleared, Unsync, Unfreeze. Sync does nothing beside Unsync."
unfolding sentence_on_literals
several_acts = refl

pub nothing_is_done :
    slave_text true (asks slave_5 held 58 (0x28 ∷ 0x00 ∷ [])) rules.Done
    ≡ codes "done: no change. Sync does nothing without Sync_Req. Freeze does nothing without Freeze_Req."
unfolding sentence_on_literals
nothing_is_done = refl

-- ---- events of the operator

pub one_unit : op_kind_text (Tick 1) ≡ codes "1 unit of time, 10 ms"
unfolding sentence_on_literals
one_unit = refl

-- ---- rules that concern the line

pub a_strange_master : line_text (1 ∷ 2 ∷ []) 9 None rules.NoMaster ≡ codes "silence: NoMaster. Master 9 is none of the line's (1, 2)."
unfolding sentence_on_literals
a_strange_master = refl

-- a telegram of master 1 to this address
abbrev sent_to : ℕ → ℕ → Option Frame
sent_to address fc = Some (frames.Telegram (request_of address 1 fc None None []))

pub a_master_of_the_line :
    line_text (1 ∷ 2 ∷ []) 1 (sent_to 2 0x6C) rules.NoStation ≡ codes "silence: NoStation. Station 2 is a master of the line."
unfolding sentence_on_literals
a_master_of_the_line = refl

-- also if its FDL status is asked for
pub a_polled_master :
    line_text (1 ∷ 2 ∷ []) 1 (sent_to 2 0x49) rules.NoStation ≡ codes "silence: NoStation. Station 2 is a master of the line."
unfolding sentence_on_literals
a_polled_master = refl

pub no_such_station : line_text (1 ∷ 2 ∷ []) 1 (sent_to 9 0x49) rules.NoStation ≡ codes "silence: NoStation. No such station."
unfolding sentence_on_literals
no_such_station = refl

pub no_such_slave : line_text (1 ∷ 2 ∷ []) 1 (sent_to 9 0x6C) rules.NoStation ≡ codes "silence: NoStation. No slave has this address."
unfolding sentence_on_literals
no_such_slave = refl

-- ---- the first row

-- master 1 sends outputs 12 34 to slave 5
abbrev exchanges : List ℕ
exchanges = 0x68 ∷ 0x05 ∷ 0x05 ∷ 0x68 ∷ 0x05 ∷ 0x01 ∷ 0x6D ∷ 0x12 ∷ 0x34 ∷ 0xB9 ∷ 0x16 ∷ []

pub before_the_first_tick :
    head_text None 18 (ask 1 exchanges) ≡ codes "   18  master 1 -> slave 5       SD2 SRD high FCB 1 FCV 0  Data_Exchange\n"
unfolding sentence_on_literals kind_text telegram_text asked_text
before_the_first_tick = refl

pub after_ticks :
    head_text (Some 18) 18 (ask 1 exchanges) ≡ codes "   18  master 1 -> slave 5       SD2 SRD high FCB 1 FCV 0  Data_Exchange  at 180 ms\n"
unfolding sentence_on_literals kind_text telegram_text asked_text
after_ticks = refl

pub after_no_time :
    head_text (Some 0) 3 (Operator (Tick 0)) ≡ codes "    3  operator -> line          0 units of time, 0 ms  at 0 ms\n"
unfolding sentence_on_literals
after_no_time = refl

-- ---- the halt

pub halted_at_the_last_place : halt_text true (5 ∷ []) ≡ codes "halted, the journal is full; released: 5."
unfolding sentence_on_literals
halted_at_the_last_place = refl

pub halted_by_the_operator : halt_text false [] ≡ codes "halted; nobody held a slave."
halted_by_the_operator = refl
