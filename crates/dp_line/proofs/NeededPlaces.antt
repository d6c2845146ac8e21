-- The places of a line are enough for the holds of its slaves.
use Rattle.std.proofs.Common.{◌≡◌, ℕ, ◌+◌, ◌-◌, ◌<◌, ◌≤◌, Bool, true, false, not, cond, eqb, leb, List, [], ◌∷◌, map, Option, Some, None, refl, sym, ap, subst, ◌∙◌, arith}
use Rattle.std.specs.Prelude.{◌&&◌, ◌||◌, is_some}
use Rattle.std.specs.List.{AllByRecursion, list_all}
use Rattle.std.specs.Option.{option_and_then, option_map_or}
use Rattle.std.proofs.lemmas.Bool.{and_from, and_parts, eqb-true, le-leb, leb-true, leb-false, lt-leb, ne_eqb}
use Rattle.arrayvec.specs.ArrayVec.{ArrayVec}
use Rattle.dp_telegram.specs.declared.frame.Telegram.{Telegram}
use Rattle.dp_telegram.specs.declared.access.Parts.{Parts}
use Rattle.dp_telegram.specs.Access.{address_of}
use Rattle.dp_telegram.specs.FunctionCode.{asks_sdn, function_of}
use Rattle.dp_sap.specs.declared.state.State.{State}
use Rattle.dp_sap.specs.declared.state.State.TheVariants.{WaitPrm}
use Rattle.dp_sap.specs.AccessTable.{global_control, same_point}
use Rattle.dp_sap.specs.States.{is_in_data_exch}
use Rattle.dp_responder.specs.declared.rule.Rule.{Rule}
use Rattle.dp_responder.specs.declared.rule.Rule.TheVariants as rules
use Rattle.dp_slave.specs.declared.description.SlaveSpec.{SlaveSpec}
use Rattle.dp_slave.specs.SlaveRecord.{SlaveRecord, is_held, starting_slave}
use Rattle.dp_slave.specs.Acts.{Act, configures, is_controlled, locks, releases, runs_out}
use Rattle.dp_slave.specs.Fields.{acted}
use Rattle.dp_slave.specs.Services.{control_of, service_act}
use Rattle.dp_line.specs.declared.event.Event.{Event}
use Rattle.dp_line.specs.declared.event.Event.TheVariants.{Request, Operator}
use Rattle.dp_line.specs.declared.event.Op.{Op}
use Rattle.dp_line.specs.declared.event.Op.TheVariants.{Input, Diag, Busy, Tick, Halt}
use Rattle.dp_line.specs.World.{AreAbove, Ascend, Description, World, address_of_slave, ascending, start_of}
use Rattle.dp_line.specs.Bus.{HasPlace}
use Rattle.dp_line.specs.Events.{act_of_op}
use Rattle.dp_line.specs.Hearing.{heard, is_to_all, telegram_of_frame}
use Rattle.dp_line.specs.Verdict.{rule_at}
use Rattle.dp_line.specs.Served.{executed, served}
use Rattle.dp_line.specs.Effects.{effect, is_for, slave_after}
use Rattle.dp_line.specs.NeededPlaces.{has_room_from, have_places, have_room, needs_from}
use Rattle.dp_line.specs.Steps.{run}
use Rattle.dp_line.proofs.BusLives.{StaysSound}
use Rattle.dp_line.proofs.BusPlaces.{HavePlaces, IsPlaced, control_act, line_places, places_kept}
use Rattle.dp_line.proofs.BusSteps.{IsConcerned, IsWay, leaves, reaches, operates, Keeps, kept_run, way}
use Rattle.dp_line.proofs.BusVerdict.{alone_by, to_all_controls}

-- how many places the slaves need from this one on
abbrev needed_from : ℕ → List SlaveRecord → ℕ
needed_from place [] = 0
needed_from place (slave ∷ slaves) = needs_from place slave + needed_from place slaves

-- ---- an act

one_at_most : (held : Bool) (n : ℕ) → cond held 1 0 ≤ n + 1
one_at_most true n = omega arith
one_at_most false n = omega arith

one_more : (held exchanges : Bool) → cond held 2 0 ≤ cond held (cond exchanges 2 1) 0 + 1
one_more true true = omega arith
one_more true false = omega arith
one_more false exchanges = omega arith

no_more : (frees : Bool) (place since : ℕ) (holder : Option ℕ) (state : State)
    → cond (is_some (cond frees None holder) && leb place (cond frees 0 since)) (cond (is_in_data_exch (cond frees WaitPrm state)) 2 1) 0
    ≤ cond (is_some holder && leb place since) (cond (is_in_data_exch state) 2 1) 0
no_more true place since holder state = omega arith
no_more false place since holder state = omega arith

act_raises : (place : ℕ) (slave : SlaveRecord) (act : Act) → needs_from place (acted slave act) ≤ needs_from place slave + 1
unfolding acted
act_raises place slave (locks sender at prm) = one_at_most (leb place (acted slave (locks sender at prm)).since) (needs_from place slave)
act_raises place slave (configures number) = one_more (is_held slave && leb place slave.since) (is_in_data_exch slave.state)
act_raises place slave other = let same = no_more (releases slave other) place slave.since slave.holder slave.state in omega (arith, same)

op_keeps : (place : ℕ) (slave : SlaveRecord) (op : Op) → needs_from place (acted slave (act_of_op op)) ≤ needs_from place slave
unfolding acted
op_keeps place slave (Input address octets) = no_more false place slave.since slave.holder slave.state
op_keeps place slave (Diag address ext stat overflow octets) = no_more false place slave.since slave.holder slave.state
op_keeps place slave (Busy address point on) = no_more false place slave.since slave.holder slave.state
op_keeps place slave (Tick time) = no_more (runs_out time slave.left) place slave.since slave.holder slave.state
op_keeps place slave Halt = no_more true place slave.since slave.holder slave.state

control_keeps : (place : ℕ) (slave : SlaveRecord) (octets : List ℕ) → needs_from place (acted slave (is_controlled (control_of octets))) ≤ needs_from place slave
unfolding acted
control_keeps place slave octets = no_more false place slave.since slave.holder slave.state

-- ---- a request

executed_raises : (place : ℕ) (slave : SlaveRecord) (sender at : ℕ) (parts : Parts) (rule : Rule) → needs_from place (executed slave sender at parts rule) ≤ needs_from place slave + 1
executed_raises place slave sender at parts rules.Done = act_raises place slave (service_act slave sender at parts.dsap parts.payload.items)
executed_raises place slave sender at parts other = omega arith

served_raises : (place : ℕ) (slave : SlaveRecord) (sender at : ℕ) (telegram : Telegram) (parts : Parts) → needs_from place (served slave sender at telegram parts) ≤ needs_from place slave + 1
unfolding served
served_raises place slave sender at telegram parts = executed_raises place slave sender at parts (rule_at sender telegram parts slave)

executed_keeps : (place : ℕ) (slave : SlaveRecord) (sender at : ℕ) (parts : Parts) (rule : Rule) → same_point parts.dsap global_control ≡ true
    → needs_from place (executed slave sender at parts rule) ≤ needs_from place slave
executed_keeps place slave sender at parts rules.Done is =
    subst (λ (act : Act). needs_from place (acted slave act) ≤ needs_from place slave) (sym (control_act slave sender at parts.dsap parts.payload.items is)) (control_keeps place slave parts.payload.items)
executed_keeps place slave sender at parts other is = omega arith

served_keeps : (place : ℕ) (slave : SlaveRecord) (sender at : ℕ) (telegram : Telegram) (parts : Parts) → same_point parts.dsap global_control ≡ true
    → needs_from place (served slave sender at telegram parts) ≤ needs_from place slave
unfolding served
served_keeps place slave sender at telegram parts is = executed_keeps place slave sender at parts (rule_at sender telegram parts slave) is

-- ---- an event: at most the slave that is asked needs one place more

abbrev one_if : Bool → ℕ
one_if b = cond b 1 0

abbrev asked_address : World → Event → ℕ
asked_address world (Request master octets) = option_map_or (λ (t : Telegram). address_of t.da) (option_and_then telegram_of_frame (heard world master octets.items).frame) 0
asked_address world (Operator op) = 0

reached_raises : (place : ℕ) (world : World) (slave : SlaveRecord) (master : ℕ) (octets : ArrayVec ℕ) (telegram : Telegram) (parts : Parts) (all : Bool) → is_to_all telegram ≡ all
    → IsConcerned (heard world master octets.items) telegram parts → is_for telegram slave ≡ true
    → needs_from place (served slave master (world.count + 1) telegram parts) ≤ needs_from place slave + one_if (eqb (address_of_slave slave) (address_of telegram.da))
reached_raises place world slave master octets telegram parts true to_all concerned asked =
    let control = and_parts (asks_sdn (function_of telegram.fc)) (same_point parts.dsap global_control) (to_all_controls (heard world master octets.items) telegram parts concerned to_all) in
    let keeps = served_keeps place slave master (world.count + 1) telegram parts control.1 in
    omega (arith, keeps)
reached_raises place world slave master octets telegram parts false to_all concerned asked =
    subst (λ (b : Bool). needs_from place (served slave master (world.count + 1) telegram parts) ≤ needs_from place slave + one_if b) (sym (alone_by (is_to_all telegram) _ to_all asked))
    (served_raises place slave master (world.count + 1) telegram parts)

way_raises : (place : ℕ) (world : World) (event : Event) (slave after : SlaveRecord) → IsWay world event slave after
    → needs_from place after ≤ needs_from place slave + one_if (eqb (address_of_slave slave) (asked_address world event))
way_raises place world event slave after (leaves is) =
    subst (λ (s : SlaveRecord). needs_from place s ≤ needs_from place slave + one_if (eqb (address_of_slave slave) (asked_address world event))) (sym is) (omega arith)
way_raises place world event slave after (reaches master octets telegram parts request concerned asked is) =
    let to : asked_address world event ≡ address_of telegram.da =
    ap (asked_address world) request ∙ ap (λ (t : Option Telegram). option_map_or (λ (x : Telegram). address_of x.da) t 0) concerned.spelt in
    subst (λ (s : SlaveRecord). needs_from place s ≤ needs_from place slave + one_if (eqb (address_of_slave slave) (asked_address world event))) (sym is)
    (subst (λ (a : ℕ). needs_from place (served slave master (world.count + 1) telegram parts) ≤ needs_from place slave + one_if (eqb (address_of_slave slave) a)) (sym to)
    (reached_raises place world slave master octets telegram parts (is_to_all telegram) refl concerned asked))
way_raises place world event slave after (operates op operator done is) =
    let keeps = op_keeps place slave op in
    subst (λ (s : SlaveRecord). needs_from place s ≤ needs_from place slave + one_if (eqb (address_of_slave slave) (asked_address world event))) (sym is) (omega (arith, keeps))

-- how many slaves have an address: at most one
abbrev with_address : ℕ → List SlaveRecord → ℕ
with_address address [] = 0
with_address address (slave ∷ slaves) = one_if (eqb (address_of_slave slave) address) + with_address address slaves

none_above : (address low : ℕ) (slaves : List SlaveRecord) → address ≤ low → AreAbove low slaves → with_address address slaves ≤ 0
none_above address low [] within above = omega arith
none_above address low (slave ∷ slaves) within above =
    let apart = ap one_if (ne_eqb (address_of_slave slave) address (λ e. omega (arith, e, within, above.0))) in
    let others = none_above address low slaves within above.1 in
    omega (arith, apart, others)

one_by : (address : ℕ) (slave : SlaveRecord) (slaves : List SlaveRecord) (b : Bool) → eqb (address_of_slave slave) address ≡ b → AreAbove (address_of_slave slave) slaves → with_address address slaves ≤ 1
    → one_if b + with_address address slaves ≤ 1
one_by address slave slaves true is above others =
    let none = none_above address (address_of_slave slave) slaves (omega (arith, eqb-true (address_of_slave slave) address is)) above in omega (arith, none)
one_by address slave slaves false is above others = omega (arith, others)

one_at_address : (address : ℕ) (slaves : List SlaveRecord) → Ascend slaves → with_address address slaves ≤ 1
one_at_address address [] ascend = omega arith
one_at_address address (slave ∷ slaves) ascend =
    one_by address slave slaves (eqb (address_of_slave slave) address) refl ascend.0 (one_at_address address slaves ascend.1)

all_raise : (place : ℕ) (world : World) (event : Event) (slaves : List SlaveRecord)
    → needed_from place (map (slave_after world event) slaves) ≤ needed_from place slaves + with_address (asked_address world event) slaves
all_raise place world event [] = omega arith
all_raise place world event (slave ∷ slaves) =
    let one = way_raises place world event slave (slave_after world event slave) (way world event slave) in
    let others = all_raise place world event slaves in
    omega (arith, one, others)

-- behind the last place no slave needs one
held_by : (holder : Option ℕ) (place since count : ℕ) → HasPlace count since holder → count < place → (is_some holder && leb place since) ≡ false
held_by None place since count has above = refl
held_by (Some master) place since count has above = let most = has.1 in lt-leb place since (omega (arith, most, above))

nothing_needed : (place count : ℕ) (slaves : List SlaveRecord) → count < place → AllByRecursion (IsPlaced count) slaves → needed_from place slaves ≤ 0
nothing_needed place count [] above placed = omega arith
nothing_needed place count (slave ∷ slaves) above placed =
    let none = ap {B = ℕ} (λ (b : Bool). cond b (cond (is_in_data_exch slave.state) 2 1) 0) (held_by slave.holder place slave.since count placed.0 above) in
    let others = nothing_needed place count slaves above placed.1 in
    omega (arith, none, others)

-- ---- a line

record HasEnough (world : World) : Type 0 where
  pub places : HavePlaces world
  pub enough : (place : ℕ) → 1 ≤ place → place ≤ world.count + 1 → needed_from place world.slaves + place ≤ world.count + 1

enough_by : (world : World) (event : Event) (place : ℕ) (b : Bool) → leb place (world.count + 1) ≡ b → HasEnough world → AllByRecursion (IsPlaced (world.count + 1)) (map (slave_after world event) world.slaves)
    → 1 ≤ place → place ≤ world.count + 1 + 1 → needed_from place (map (slave_after world event) world.slaves) + place ≤ world.count + 1 + 1
enough_by world event place true is has placed some most =
    let before = has.enough place some (leb-true place (world.count + 1) is) in
    let raised = all_raise place world event world.slaves in
    let one = one_at_address (asked_address world event) world.slaves has.places.lived.ascend in
    omega (arith, before, raised, one)
enough_by world event place false is has placed some most =
    let none = nothing_needed place (world.count + 1) (map (slave_after world event) world.slaves) (leb-false place (world.count + 1) is) placed in
    omega (arith, none, most)

enough_kept : StaysSound → Keeps HasEnough
unfolding effect
enough_kept sound world event running fit has =
    let later = places_kept sound world event running fit has.places in
    record { places = later; enough = λ place some most. enough_by world event place (leb place (world.count + 1)) refl has later.placed some most }

nobody_needs : (place : ℕ) (masters : List ℕ) (descriptions : List SlaveSpec) → needed_from place (map (starting_slave masters) descriptions) ≤ 0
nobody_needs place masters [] = omega arith
nobody_needs place masters (description ∷ descriptions) = let others = nobody_needs place masters descriptions in omega (arith, others)

line_enough : StaysSound → (line : Description) (events : List Event) → HasEnough (run (start_of line) events).world
line_enough sound line events =
    kept_run HasEnough (start_of line) events (enough_kept sound) (record {
      places = line_places sound line [];
      enough = λ place some most. let none = nobody_needs place line.masters (ascending line.slaves) in omega (arith, none, most);
    })

-- ---- the test

room_by : (place room : ℕ) (slaves : List SlaveRecord) → needed_from place slaves ≤ room → have_room place room slaves ≡ true
room_by place room [] enough = refl
room_by place room (slave ∷ slaves) enough =
    and_from (leb (needs_from place slave) room) (have_room place (room - needs_from place slave) slaves)
    (le-leb (needs_from place slave) room (omega (arith, enough)))
    (room_by place (room - needs_from place slave) slaves (omega (arith, enough)))

slave_room : (world : World) (slave : SlaveRecord) (holder : Option ℕ) → HasEnough world → HasPlace world.count slave.since holder
    → (not (is_some holder) || leb slave.since world.count && have_room slave.since (world.count - slave.since + 1) world.slaves) ≡ true
slave_room world slave None has place = refl
slave_room world slave (Some master) has place =
    let least = place.0 in
    let most = place.1 in
    let enough = has.enough slave.since least (omega (arith, most)) in
    and_from (leb slave.since world.count) (have_room slave.since (world.count - slave.since + 1) world.slaves) (le-leb slave.since world.count most)
    (room_by slave.since (world.count - slave.since + 1) world.slaves (omega (arith, enough, most)))

all_room : (world : World) (slaves : List SlaveRecord) → HasEnough world → AllByRecursion (IsPlaced world.count) slaves → list_all (has_room_from world.count world.slaves) slaves ≡ true
all_room world [] has placed = refl
all_room world (slave ∷ slaves) has placed =
    and_from (has_room_from world.count world.slaves slave) (list_all (has_room_from world.count world.slaves) slaves)
    (slave_room world slave slave.holder has placed.0) (all_room world slaves has placed.1)

pub places_enough : StaysSound → (line : Description) (events : List Event) → have_places (run (start_of line) events).world.count (run (start_of line) events).world.slaves ≡ true
places_enough sound line events =
    let world = (run (start_of line) events).world in
    let has = line_enough sound line events in
    all_room world world.slaves has has.places.placed
