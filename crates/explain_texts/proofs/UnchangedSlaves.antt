-- What has no row of changes is unchanged.
use Rattle.std.proofs.Common.{◌≡◌, ◌≢◌, ℕ, ◌+◌, Bool, true, false, cond, eqb, List, [], ◌∷◌, ◌++◌, map, Option, Some, None, refl, sym, ap, subst, ◌∙◌}
use Rattle.std.specs.Prelude.{◌&&◌, is_none, is_some, option_map}
use Rattle.std.specs.Option.{option_and_then}
use Rattle.std.specs.List.{AllByRecursion, filter, list_any}
use Rattle.std.proofs.lemmas.Bool.{and_parts, both_ways, cond-true, eqb-true, eq-eqb}
use Rattle.arrayvec.specs.ArrayVec.{ArrayVec}
use Rattle.dp_telegram.specs.declared.frame.Frame.{Frame}
use Rattle.dp_telegram.specs.declared.frame.Frame.TheVariants as frames
use Rattle.dp_telegram.specs.declared.frame.Telegram.{Telegram}
use Rattle.dp_telegram.specs.declared.access.Parts.{Parts}
use Rattle.dp_telegram.specs.FrameText.{frame_of}
use Rattle.dp_telegram.specs.Access.{address_of}
use Rattle.dp_telegram.specs.FunctionCode.{asks_sdn, function_of}
use Rattle.dp_sap.specs.declared.state.State.{State}
use Rattle.dp_sap.specs.declared.state.State.TheVariants.{WaitPrm, WaitCfg, DataExch}
use Rattle.dp_sap.specs.States.{is_in_wait_prm}
use Rattle.dp_sap.specs.AccessTable.{global_control, same_point}
use Rattle.dp_responder.specs.declared.rule.Rule.{Rule}
use Rattle.dp_responder.specs.declared.rule.Rule.TheVariants as rules
use Rattle.dp_slave.specs.declared.view.SlaveView.{SlaveView}
use Rattle.dp_slave.specs.SlaveRecord.{SlaveRecord, is_held}
use Rattle.dp_slave.specs.Acts.{Act, is_controlled, ticks}
use Rattle.dp_slave.specs.Fields.{acted}
use Rattle.dp_slave.specs.Services.{control_of, service_act}
use Rattle.dp_slave.specs.View.{view_of}
use Rattle.dp_line.specs.declared.event.Event.{Event}
use Rattle.dp_line.specs.declared.event.Event.TheVariants.{Request, Operator}
use Rattle.dp_line.specs.declared.event.Op.{Op}
use Rattle.dp_line.specs.declared.event.Op.TheVariants.{Input, Diag, Busy, Tick, Halt}
use Rattle.dp_line.specs.declared.event.Outcome.{Outcome}
use Rattle.dp_line.specs.World.{Description, World, address_of_slave, slave_among, slave_at, start_of}
use Rattle.dp_line.specs.Events.{act_of_op, expires}
use Rattle.dp_line.specs.Hearing.{heard, is_to_all, telegram_of_frame}
use Rattle.dp_line.specs.Served.{executed, served}
use Rattle.dp_line.specs.Effects.{addresses_where, is_for, outcome_of, slave_after, state_and_holder}
use Rattle.dp_line.specs.Steps.{run}
use Rattle.dp_line.specs.Isolation.{IsOfALine}
use Rattle.dp_audit.specs.declared.entry.Entry.{Entry}
use Rattle.dp_audit.specs.EventWays.{Way}
use Rattle.dp_audit.specs.Legal.{Follows, IsLegal, after_entries, after_entry}
use Rattle.explain_events.specs.declared.sender_and_receiver.Receiver.TheVariants.{Slave, AllSlaves}
use Rattle.explain_events.specs.Heads.{receiver_of_frame}
use Rattle.explain_events.specs.Shown.{shown_at}
use Rattle.explain_events.specs.Changes.{asked_addresses, change_of, change_row, changed_row, same_holder, same_state, touched}
use Rattle.explain_texts.specs.Holds.{ended_at, hold_ended}
use Rattle.explain_texts.specs.StateAndHolder.{state_and_holder_at}
use Rattle.explain_texts.proofs.Reached.{IsConcerned, IsWay, leaves, reaches, operates, asks_it, at_after, found_address, heard_frame, telegram_frame, to_all_controls, way}
use Rattle.explain_texts.proofs.ReportedAgain.{taken_by}

-- the rows of changes can show the slave at an address
abbrev pub is_touched : ℕ → Event → Outcome → Bool
is_touched address event outcome = list_any (λ other. eqb other address) (touched event outcome)

-- ---- requests

-- a Global_Control changes neither state nor holder
control_act : (slave : SlaveRecord) (sender place : ℕ) (point : Option ℕ) (octets : List ℕ) → same_point point global_control ≡ true
    → service_act slave sender place point octets ≡ is_controlled (control_of octets)
control_act slave sender place None octets is = absurd cc
control_act slave sender place (Some number) octets is = cond-true (eqb number 58) (is_controlled (control_of octets)) _ is

executed_controlled : (slave : SlaveRecord) (sender place : ℕ) (parts : Parts) (rule : Rule) → same_point parts.dsap global_control ≡ true
    → state_and_holder (executed slave sender place parts rule) ≡ state_and_holder slave
unfolding acted
executed_controlled slave sender place parts rules.Done is =
    ap (λ (act : Act). state_and_holder (acted slave act)) (control_act slave sender place parts.dsap parts.payload.items is)
executed_controlled slave sender place parts other is = refl

served_controlled : (slave : SlaveRecord) (sender place : ℕ) (telegram : Telegram) (parts : Parts) → same_point parts.dsap global_control ≡ true
    → state_and_holder (served slave sender place telegram parts) ≡ state_and_holder slave
unfolding served
served_controlled slave sender place telegram parts is = executed_controlled slave sender place parts _ is

-- a request for one slave can change it
one_touched : (da address : ℕ) → da ≡ address → list_any (λ other. eqb other address) (da ∷ []) ≡ true
one_touched da address same = let is = eq-eqb da address same in rw is refl

frame_touched : (frame : Option Frame) (telegram : Telegram) (address : ℕ) → frame ≡ Some (frames.Telegram telegram) → is_to_all telegram ≡ false → address_of telegram.da ≡ address
    → list_any (λ other. eqb other address) (asked_addresses (receiver_of_frame frame)) ≡ true
frame_touched frame telegram address is alone same =
    ap (λ (f : Option Frame). list_any (λ other. eqb other address) (asked_addresses (receiver_of_frame f))) is
    ∙ ap (λ (b : Bool). list_any (λ other. eqb other address) (asked_addresses (cond b AllSlaves (Slave (address_of telegram.da))))) alone
    ∙ one_touched (address_of telegram.da) address same

reached_state_and_holder : (world : World) (event : Event) (outcome : Outcome) (slave : SlaveRecord) (master : ℕ) (octets : ArrayVec ℕ) (telegram : Telegram) (parts : Parts) (all : Bool)
    → is_to_all telegram ≡ all → event ≡ Request master octets → IsConcerned (heard world master octets.items) telegram parts → is_for telegram slave ≡ true
    → is_touched (address_of_slave slave) event outcome ≡ false
    → state_and_holder (served slave master (world.count + 1) telegram parts) ≡ state_and_holder slave
reached_state_and_holder world event outcome slave master octets telegram parts true to_all is concerned asked out =
    let control = and_parts (asks_sdn (function_of telegram.fc)) (same_point parts.dsap global_control)
    (to_all_controls (heard world master octets.items) telegram parts concerned to_all) in
    served_controlled slave master (world.count + 1) telegram parts control.1
reached_state_and_holder world event outcome slave master octets telegram parts false to_all is concerned asked out =
    let framed = telegram_frame (frame_of octets.items) telegram (ap (option_and_then telegram_of_frame) (sym (heard_frame world master octets.items)) ∙ concerned.spelt) in
    let inside = frame_touched (frame_of octets.items) telegram (address_of_slave slave) framed to_all (sym (asks_it telegram slave to_all asked)) in
    let outside = subst (λ (e : Event). is_touched (address_of_slave slave) e outcome ≡ false) is out in
    absurd (both_ways (is_touched (address_of_slave slave) (Request master octets) outcome) outside inside)

-- ---- events of the operator

later_by : (b : Bool) (first : SlaveRecord) (address : ℕ) (others : List SlaveRecord) → eqb (address_of_slave first) address ≡ false
    → list_any (λ other. eqb other address) (map address_of_slave others) ≡ true → list_any (λ other. eqb other address) (map address_of_slave (cond b (first ∷ others) others)) ≡ true
later_by true first address others e there = rw e there
later_by false first address others e there = there

touched_by : (holds : SlaveRecord → Bool) (first slave : SlaveRecord) (address : ℕ) (found : Option SlaveRecord) (others : List SlaveRecord) (same : Bool) → eqb (address_of_slave first) address ≡ same
    → holds slave ≡ true → cond same (Some first) found ≡ Some slave
    → (found ≡ Some slave → list_any (λ other. eqb other address) (map address_of_slave (filter holds others)) ≡ true)
    → list_any (λ other. eqb other address) (map address_of_slave (filter holds (first ∷ others))) ≡ true
touched_by holds first slave address found others true e held here more =
    let it : first ≡ slave = cc in
    let is : holds first ≡ true = ap holds it ∙ held in
    rw is (rw e refl)
touched_by holds first slave address found others false e held here more = later_by (holds first) first address (filter holds others) e (more here)

-- the slave that is found is among those for which this is true
among_where : (holds : SlaveRecord → Bool) (slaves : List SlaveRecord) (address : ℕ) (slave : SlaveRecord) → slave_among slaves address ≡ Some slave → holds slave ≡ true
    → list_any (λ other. eqb other address) (map address_of_slave (filter holds slaves)) ≡ true
among_where holds [] address slave here held = absurd cc
among_where holds (first ∷ slaves) address slave here held =
    touched_by holds first slave address (slave_among slaves address) slaves (eqb (address_of_slave first) address) refl held here
    (λ there. among_where holds slaves address slave there held)

not_true : (b : Bool) → (b ≡ true → ⊥) → b ≡ false
not_true true none = absurd (none refl)
not_true false none = refl

not_where : (holds : SlaveRecord → Bool) (world : World) (address : ℕ) (slave : SlaveRecord) → slave_at world address ≡ Some slave
    → list_any (λ other. eqb other address) (addresses_where holds world) ≡ false → holds slave ≡ false
not_where holds world address slave here out =
    not_true (holds slave) (λ held. both_ways (list_any (λ other. eqb other address) (addresses_where holds world)) out (among_where holds world.slaves address slave here held))

pub tick_state_and_holder : (slave : SlaveRecord) (time : ℕ) → expires time slave ≡ false → state_and_holder (acted slave (ticks time)) ≡ state_and_holder slave
unfolding acted
tick_state_and_holder slave time stays = rw stays refl

waits : (state : State) → is_in_wait_prm state ≡ true → state ≡ WaitPrm
waits WaitPrm is = refl
waits WaitCfg is = absurd cc
waits DataExch is = absurd cc

unheld : (holder : Option ℕ) → is_some holder ≡ false → holder ≡ None
unheld None is = refl
unheld (Some master) is = absurd cc

pub halt_state_and_holder : (slave : SlaveRecord) → is_in_wait_prm slave.state ≡ is_none slave.holder → is_held slave ≡ false → state_and_holder (acted slave (act_of_op Halt)) ≡ state_and_holder slave
unfolding acted
halt_state_and_holder slave waiting free =
    let holder = unheld slave.holder free in
    let state = waits slave.state (waiting ∙ ap is_none holder) in
    rw (state, holder) refl

op_state_and_holder : (world : World) (op : Op) (outcome : Outcome) (address : ℕ) (slave : SlaveRecord) → slave_at world address ≡ Some slave → is_in_wait_prm slave.state ≡ is_none slave.holder
    → outcome ≡ outcome_of world (Operator op) → is_touched address (Operator op) outcome ≡ false → state_and_holder (acted slave (act_of_op op)) ≡ state_and_holder slave
unfolding acted outcome_of
op_state_and_holder world (Input at octets) outcome address slave here waiting reported out = refl
op_state_and_holder world (Diag at ext stat overflow octets) outcome address slave here waiting reported out = refl
op_state_and_holder world (Busy at point on) outcome address slave here waiting reported out = refl
op_state_and_holder world (Tick time) outcome address slave here waiting reported out =
    tick_state_and_holder slave time (not_where (expires time) world address slave here (subst (λ (o : Outcome). is_touched address (Operator (Tick time)) o ≡ false) reported out))
op_state_and_holder world Halt outcome address slave here waiting reported out =
    halt_state_and_holder slave waiting (not_where is_held world address slave here (subst (λ (o : Outcome). is_touched address (Operator Halt) o ≡ false) reported out))

-- ---- each slave

way_state_and_holder : (world : World) (event : Event) (outcome : Outcome) (address : ℕ) (slave after : SlaveRecord) → slave_at world address ≡ Some slave → is_in_wait_prm slave.state ≡ is_none slave.holder
    → outcome ≡ outcome_of world event → is_touched address event outcome ≡ false → IsWay world event slave after → state_and_holder after ≡ state_and_holder slave
way_state_and_holder world event outcome address slave after here waiting reported out (leaves is) = ap state_and_holder is
way_state_and_holder world event outcome address slave after here waiting reported out (reaches master octets telegram parts request concerned asked is) =
    let at : address ≡ address_of_slave slave = sym (found_address world.slaves address slave here) in
    ap state_and_holder is ∙ reached_state_and_holder world event outcome slave master octets telegram parts (is_to_all telegram) refl request concerned asked
    (subst (λ (a : ℕ). is_touched a event outcome ≡ false) at out)
way_state_and_holder world event outcome address slave after here waiting reported out (operates op operator is) =
    ap state_and_holder is ∙ op_state_and_holder world op outcome address slave here waiting (subst (λ (e : Event). outcome ≡ outcome_of world e) operator reported)
    (subst (λ (e : Event). is_touched address e outcome ≡ false) operator out)

found_by : (P : SlaveRecord → Type 0) (first slave : SlaveRecord) (found : Option SlaveRecord) (b : Bool) → P first → (found ≡ Some slave → P slave) → cond b (Some first) found ≡ Some slave → P slave
found_by P first slave found true one others here = let same : first ≡ slave = cc in subst P same one
found_by P first slave found false one others here = others here

-- what is true of each slave is true of the one that is found by an address
pub found_is : (P : SlaveRecord → Type 0) (slaves : List SlaveRecord) (address : ℕ) (slave : SlaveRecord) → AllByRecursion P slaves → slave_among slaves address ≡ Some slave → P slave
found_is P [] address slave all here = absurd cc
found_is P (first ∷ slaves) address slave all here =
    found_by P first slave (slave_among slaves address) (eqb (address_of_slave first) address) all.0 (found_is P slaves address slave all.1) here

abbrev ChangesNone : World → Event → ℕ → Option SlaveRecord → Type 0
ChangesNone world event address found = option_map state_and_holder (option_map (slave_after world event) found) ≡ option_map state_and_holder found

state_and_holder_by : (world : World) (entry : Entry) (address : ℕ) (found : Option SlaveRecord) → slave_at world address ≡ found → IsOfALine world → Follows world entry
    → is_touched address entry.event entry.outcome ≡ false → ChangesNone world entry.event address found
state_and_holder_by world entry address None here line follows out = refl
state_and_holder_by world entry address (Some slave) here line follows out =
    let waiting = found_is (λ s. is_in_wait_prm s.state ≡ is_none s.holder) world.slaves address slave line.waits_unheld here in
    ap Some (way_state_and_holder world entry.event entry.outcome address slave (slave_after world entry.event slave) here waiting follows.outcome out (way world entry.event slave))

pub untouched_world : (world : World) (entry : Entry) (address : ℕ) → IsOfALine world → Follows world entry → is_touched address entry.event entry.outcome ≡ false
    → state_and_holder_at (after_entry world entry) address ≡ state_and_holder_at world address
untouched_world world entry address line follows out =
    ap (option_map state_and_holder) (at_after world entry.event address) ∙ state_and_holder_by world entry address (slave_at world address) refl line follows out

-- ---- a slave without a row

same_states : (before after : State) → same_state before after ≡ true → before ≡ after
same_states WaitPrm WaitPrm is = refl
same_states WaitCfg WaitCfg is = refl
same_states DataExch DataExch is = refl
same_states WaitPrm WaitCfg is = absurd cc
same_states WaitPrm DataExch is = absurd cc
same_states WaitCfg WaitPrm is = absurd cc
same_states WaitCfg DataExch is = absurd cc
same_states DataExch WaitPrm is = absurd cc
same_states DataExch WaitCfg is = absurd cc

same_holders : (before after : Option ℕ) → same_holder before after ≡ true → before ≡ after
same_holders None None is = refl
same_holders None (Some after) is = absurd cc
same_holders (Some before) None is = absurd cc
same_holders (Some before) (Some after) is = ap Some (eqb-true before after is)

row_written : (address : ℕ) (before after : SlaveView) → changed_row address before after ≢ []
row_written address before after is = absurd cc

no_row_same : (address : ℕ) (before after : SlaveView) (b : Bool) → (same_state before.state after.state && same_holder before.holder after.holder) ≡ b
    → cond b [] (changed_row address before after) ≡ [] → (after.state ≡ before.state) × (after.holder ≡ before.holder)
no_row_same address before after true same none =
    let both = and_parts (same_state before.state after.state) (same_holder before.holder after.holder) same in
    (sym (same_states before.state after.state both.0), sym (same_holders before.holder after.holder both.1))
no_row_same address before after false other none = absurd (row_written address before after none)

state_and_holder_same : (one other : SlaveRecord) → one.state ≡ other.state → one.holder ≡ other.holder → state_and_holder one ≡ state_and_holder other
state_and_holder_same one other state holder = rw (state, holder) refl

no_row_by : (f : SlaveRecord → SlaveRecord) (address : ℕ) (found : Option SlaveRecord)
    → change_row address (option_map view_of found) (option_map view_of (option_map f found)) ≡ [] → option_map state_and_holder (option_map f found) ≡ option_map state_and_holder found
no_row_by f address None none = refl
no_row_by f address (Some slave) none =
    let before = view_of slave in
    let after = view_of (f slave) in
    let both = no_row_same address before after (same_state before.state after.state && same_holder before.holder after.holder) refl none in
    ap Some (state_and_holder_same (f slave) slave both.0 both.1)

no_row_world : (world : World) (entry : Entry) (address : ℕ) → change_of world (after_entry world entry) address ≡ [] → state_and_holder_at (after_entry world entry) address ≡ state_and_holder_at world address
no_row_world world entry address none =
    let at = at_after world entry.event address in
    ap (option_map state_and_holder) at
    ∙ no_row_by (slave_after world entry.event) address (slave_at world address)
    (subst (λ (found : Option SlaveRecord). change_row address (shown_at world address) (option_map view_of found) ≡ []) at none)

-- ---- the rows that are written are those of all slaves

states_same : (state : State) → same_state state state ≡ true
states_same WaitPrm = refl
states_same WaitCfg = refl
states_same DataExch = refl

holders_same : (holder : Option ℕ) → same_holder holder holder ≡ true
holders_same None = refl
holders_same (Some master) = eq-eqb master master refl

row_of_same : (address : ℕ) (before after : SlaveRecord) → state_and_holder after ≡ state_and_holder before → change_row address (Some (view_of before)) (Some (view_of after)) ≡ []
row_of_same address before after same =
    let state : after.state ≡ before.state = ap (λ (pair : State × Option ℕ). pair.0) same in
    let holder : after.holder ≡ before.holder = ap (λ (pair : State × Option ℕ). pair.1) same in
    let one = states_same before.state in
    let two = holders_same before.holder in
    rw (state, holder, one, two) refl

some_parts : {A : Type 0} (a b : A) → Some a ≡ Some b → a ≡ b
some_parts a b is = cc

stays_by : (f : SlaveRecord → SlaveRecord) (address : ℕ) (found : Option SlaveRecord) → option_map state_and_holder (option_map f found) ≡ option_map state_and_holder found
    → change_row address (option_map view_of found) (option_map view_of (option_map f found)) ≡ []
stays_by f address None same = refl
stays_by f address (Some slave) same = row_of_same address slave (f slave) (some_parts _ _ same)

pub stays_without_row : (world : World) (entry : Entry) (address : ℕ) → state_and_holder_at (after_entry world entry) address ≡ state_and_holder_at world address → change_of world (after_entry world entry) address ≡ []
stays_without_row world entry address same =
    let at = at_after world entry.event address in
    ap (λ (found : Option SlaveRecord). change_row address (shown_at world address) (option_map view_of found)) at
    ∙ stays_by (slave_after world entry.event) address (slave_at world address) (ap (option_map state_and_holder) (sym at) ∙ same)

-- ---- no hold of an unchanged slave ended

end_of_same : (place : ℕ) (event : Event) (address : ℕ) (before after : SlaveRecord) → state_and_holder after ≡ state_and_holder before
    → hold_ended place event address (Some (view_of before)) (Some (view_of after)) ≡ []
end_of_same place event address before after same =
    let holder : after.holder ≡ before.holder = ap (λ (pair : State × Option ℕ). pair.1) same in
    let unchanged = holders_same before.holder in
    rw (holder, unchanged) refl

unended_by : (f : SlaveRecord → SlaveRecord) (place : ℕ) (event : Event) (address : ℕ) (found : Option SlaveRecord)
    → option_map state_and_holder (option_map f found) ≡ option_map state_and_holder found
    → hold_ended place event address (option_map view_of found) (option_map view_of (option_map f found)) ≡ []
unended_by f place event address None same = refl
unended_by f place event address (Some slave) same = end_of_same place event address slave (f slave) (some_parts _ _ same)

pub stays_without_end : (world : World) (entry : Entry) (address : ℕ) → state_and_holder_at (after_entry world entry) address ≡ state_and_holder_at world address
    → ended_at world (after_entry world entry) entry.place entry.event address ≡ []
stays_without_end world entry address same =
    let at = at_after world entry.event address in
    ap (λ (found : Option SlaveRecord). hold_ended entry.place entry.event address (shown_at world address) (option_map view_of found)) at
    ∙ unended_by (slave_after world entry.event) entry.place entry.event address (slave_at world address) (ap (option_map state_and_holder) (sym at) ∙ same)

-- ---- a world of a journal

abbrev pub Ways : Type 0
Ways = (world : World) → (event : Event) → Way world event

abbrev pub LinesHave : Type 0
LinesHave = (line : Description) (events : List Event) → IsOfALine (run (start_of line) events).world

abbrev events_of : List Entry → List Event
events_of entries = map (λ entry. entry.event) entries

played : Ways → (world : World) (entries : List Entry) → IsLegal world entries → (run world (events_of entries)).world ≡ after_entries world entries
played ways world [] legal = refl
played ways world (entry ∷ entries) legal =
    ap (λ (w : World). (run w (events_of entries)).world) (taken_by world entry legal.0 (ways world entry.event)).left
    ∙ played ways (after_entry world entry) entries legal.1

pub journal_line : Ways → LinesHave → (line : Description) (entries : List Entry) → IsLegal (start_of line) entries → IsOfALine (after_entries (start_of line) entries)
journal_line ways have line entries legal = subst IsOfALine (played ways (start_of line) entries legal) (have line (events_of entries))

-- a journal, and an entry that follows it
pub record IsLastOf (world : World) (before : List Entry) (entry : Entry) : Type 0 where
  pub legal : IsLegal world before
  pub follows : Follows (after_entries world before) entry
  pub left : after_entries world (before ++ entry ∷ []) ≡ after_entry (after_entries world before) entry

pub last_of : (world : World) (before : List Entry) (entry : Entry) → IsLegal world (before ++ entry ∷ []) → IsLastOf world before entry
last_of world [] entry legal = record { legal = tt; follows = legal.0; left = refl }
last_of world (first ∷ before) entry legal =
    let last = last_of (after_entry world first) before entry legal.1 in
    record { legal = (legal.0, last.legal); follows = last.follows; left = last.left }

pub untouched : Ways → LinesHave → (line : Description) (before : List Entry) (entry : Entry) (address : ℕ) → IsLegal (start_of line) (before ++ entry ∷ [])
    → list_any (λ other. eqb other address) (touched entry.event entry.outcome) ≡ false
    → state_and_holder_at (after_entries (start_of line) (before ++ entry ∷ [])) address ≡ state_and_holder_at (after_entries (start_of line) before) address
untouched ways have line before entry address legal out =
    let last = last_of (start_of line) before entry legal in
    ap (λ (w : World). state_and_holder_at w address) last.left
    ∙ untouched_world (after_entries (start_of line) before) entry address (journal_line ways have line before last.legal) last.follows out

pub no_row : (line : Description) (before : List Entry) (entry : Entry) (address : ℕ) → IsLegal (start_of line) (before ++ entry ∷ [])
    → change_of (after_entries (start_of line) before) (after_entries (start_of line) (before ++ entry ∷ [])) address ≡ []
    → state_and_holder_at (after_entries (start_of line) (before ++ entry ∷ [])) address ≡ state_and_holder_at (after_entries (start_of line) before) address
no_row line before entry address legal none =
    let last = last_of (start_of line) before entry legal in
    ap (λ (w : World). state_and_holder_at w address) last.left
    ∙ no_row_world (after_entries (start_of line) before) entry address (subst (λ (w : World). change_of (after_entries (start_of line) before) w address ≡ []) last.left none)
