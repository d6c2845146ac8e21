-- Each slave of a line is one to which its events can have led.
use Rattle.std.proofs.Common.{◌≡◌, ℕ, ◌+◌, ◌<◌, ◌≤◌, Bool, true, false, not, cond, eqb, leb, ltb, List, [], ◌∷◌, All, drop, length, map, Option, Some, None, refl, sym, ap, subst, ◌∙◌, arith}
use Rattle.std.specs.Prelude.{◌-◌, ◌&&◌, ◌||◌, is_none}
use Rattle.std.specs.List.{AllByRecursion, list_all}
use Rattle.std.specs.Option.{option_and_then}
use Rattle.std.proofs.lemmas.Bool.{and_from, and_parts, eq-eqb, leb-true, lt-ltb}
use Rattle.std.proofs.lemmas.List.{length-map}
use Rattle.std.proofs.lemmas.List.Elements.{All-drop, All-take}
use Rattle.std.proofs.lemmas.Option.{same_Some}
use Rattle.arrayvec.specs.ArrayVec.{ArrayVec}
use Rattle.dp_telegram.specs.declared.frame.Telegram.{Telegram}
use Rattle.dp_telegram.specs.declared.frame.Frame.TheVariants as frames
use Rattle.dp_telegram.specs.declared.access.Parts.{Parts}
use Rattle.dp_telegram.specs.Access.{announces, extension_of, is_plain, parts_of}
use Rattle.dp_telegram.specs.FrameText.{body_at, delimiter, fault_of, frame_length, frame_of, head_length, sc, sd4, telegram_in}
use Rattle.dp_sap.specs.declared.state.State.{State}
use Rattle.dp_sap.specs.AccessTable.{is_listed}
use Rattle.dp_sap.specs.States.{is_in_data_exch}
use Rattle.dp_cfg.specs.Choosing.{same_octets}
use Rattle.dp_responder.specs.Memory.{MasterMemory, no_memory}
use Rattle.dp_responder.specs.declared.rule.Rule.{Rule}
use Rattle.dp_responder.specs.declared.rule.Rule.TheVariants as rules
use Rattle.dp_slave.specs.declared.description.SlaveSpec.{SlaveSpec}
use Rattle.dp_slave.specs.SlaveRecord.{SlaveRecord, configurations, points_of, starting_slave}
use Rattle.dp_slave.specs.Acts.{Act, locks, releases}
use Rattle.dp_slave.specs.Fields.{acted}
use Rattle.dp_slave.specs.Services.{service_act}
use Rattle.dp_slave.specs.Soundness.{IsSound, fits}
use Rattle.dp_slave.specs.Reachable.{has_choosable_shape, has_reachable_data, has_reachable_hold, has_sound_faults, is_reachable, suits}
use Rattle.dp_line.specs.declared.event.Event.{Event}
use Rattle.dp_line.specs.declared.event.Op.{Op}
use Rattle.dp_line.specs.declared.event.Op.TheVariants.{Input, Diag, Busy, Tick, Halt}
use Rattle.dp_line.specs.World.{Description, World, address_of_slave, ascending, opening_fault, slave_is_within_limits, start_of}
use Rattle.dp_line.specs.Bus.{HasPlace, HasShortConfigurations, HasShortReport}
use Rattle.dp_line.specs.EventOctets.{HasOctets}
use Rattle.dp_line.specs.Events.{act_of_op, operator_fault_at}
use Rattle.dp_line.specs.Endless.{endless}
use Rattle.dp_line.specs.Hearing.{heard, is_to_all}
use Rattle.dp_line.specs.Verdict.{rule_at}
use Rattle.dp_line.specs.Served.{executed, served}
use Rattle.dp_line.specs.Effects.{effect, slave_after}
use Rattle.dp_line.specs.Steps.{run}
use Rattle.dp_line.specs.RememberedReplies.{is_memory_of, is_remembered}
use Rattle.dp_line.specs.SoundWorld.{has_place_of_chk_cfg, is_reachable_on}
use Rattle.dp_line.proofs.Starting.{opened}
use Rattle.dp_line.proofs.Restorable.{ascending_have}
use Rattle.dp_line.proofs.BusSteps.{IsConcerned, IsWay, leaves, reaches, operates, KeepsUnder, kept_under, served_description, way}
use Rattle.dp_line.proofs.BusVerdict.{not_false, passed, telegram_frame}
use Rattle.dp_line.proofs.BusLives.{IsFitting, StaysSound, all_fitting, op_fits, service_fits, world_sound}
use Rattle.dp_line.proofs.BusAnswers.{HaveAnswers, IsAnswering, IsServed, answers_kept, for_slave, is_short, line_answers}
use Rattle.dp_line.proofs.BusPlaces.{HavePlaces, IsPlaced, line_places, places_kept}
use Rattle.dp_line.proofs.BusReasons.{TextsAgree}
use Rattle.dp_line.proofs.IsolationOfLines.{of_a_line}
use Rattle.dp_line.proofs.RememberedReplies.{AreRemembered, extensions_of, giving, served_remembers}

-- the laws that are used
pub record HasLaws : Type 0 where
  pub sound : StaysSound
  pub agree : TextsAgree
  pub suits_it : (slave : SlaveRecord) (sender place : ℕ) (point : Option ℕ) (octets : List ℕ) → All (λ octet. octet < 256) octets → is_listed (points_of slave) point sender ≡ true
      → suits slave (service_act slave sender place point octets) ≡ true
  pub starts : (masters : List ℕ) (description : SlaveSpec) → 1 ≤ length (configurations description) → is_reachable (starting_slave masters description) ≡ true
  pub goes_on : (slave : SlaveRecord) (act : Act) → is_reachable slave ≡ true → fits slave act ≡ true → suits slave act ≡ true → is_reachable (acted slave act) ≡ true

-- ---- the octets of a request

abbrev AreOctets : List ℕ → Type 0
AreOctets octets = All (λ octet. octet < 256) octets

framed_by : (right token ack : Bool) (da sa : ℕ) (t telegram : Telegram) → cond right (Some (cond token (frames.Token da sa) (cond ack frames.Ack (frames.Telegram t)))) None ≡ Some (frames.Telegram telegram) → t ≡ telegram
framed_by false token ack da sa t telegram is = absurd cc
framed_by true true ack da sa t telegram is = absurd cc
framed_by true false true da sa t telegram is = absurd cc
framed_by true false false da sa t telegram is = cc

unit_octets : (octets : List ℕ) (telegram : Telegram) → frame_of octets ≡ Some (frames.Telegram telegram) → AreOctets octets → AreOctets telegram.du.items
unit_octets octets telegram is below =
    subst (λ (t : Telegram). AreOctets t.du.items)
    (framed_by (is_none (fault_of octets)) (eqb (delimiter octets) sd4) (eqb (delimiter octets) sc) _ _ (telegram_in (body_at octets)) telegram is)
    (All-drop (λ octet. octet < 256) 3 (body_at octets)
    (All-take (λ octet. octet < 256) (frame_length octets - 2 - head_length octets) (drop (head_length octets) octets) (All-drop (λ octet. octet < 256) (head_length octets) octets below)))

rest_by : (plain : Bool) (octet : ℕ) (octets : List ℕ) (point : Option ℕ) (rest : List ℕ) → cond {A = Option (Option ℕ × List ℕ)} plain (Some (Some octet, octets)) None ≡ Some (point, rest) → AreOctets octets → AreOctets rest
rest_by true octet octets point rest is below = subst AreOctets (ap (λ (p : Option ℕ × List ℕ). p.1) (same_Some _ _ is)) below
rest_by false octet octets point rest is below = absurd cc

rest_octets : (announced : Bool) (octets : List ℕ) (point : Option ℕ) (rest : List ℕ) → extension_of announced octets ≡ Some (point, rest) → AreOctets octets → AreOctets rest
rest_octets false octets point rest is below = subst AreOctets (ap (λ (p : Option ℕ × List ℕ). p.1) (same_Some _ _ is)) below
rest_octets true [] point rest is below = absurd cc
rest_octets true (octet ∷ octets) point rest is below = rest_by (is_plain octet) octet octets point rest is (All-drop (λ o. o < 256) 1 (octet ∷ octets) below)

payload_octets : (telegram : Telegram) (parts : Parts) → parts_of telegram ≡ Some parts → AreOctets telegram.du.items → AreOctets parts.payload.items
payload_octets telegram parts read below =
    let has = extensions_of telegram parts read in
    rest_octets (announces telegram.sa) has.rest parts.ssap parts.payload.items has.source
    (rest_octets (announces telegram.da) telegram.du.items parts.dsap has.rest has.destination below)

-- the points and the payload that a request says are those of its telegram
read_is : (world : World) (master : ℕ) (octets : List ℕ) (telegram : Telegram) (parts : Parts) → IsConcerned (heard world master octets) telegram parts → parts_of telegram ≡ Some parts
unfolding heard
read_is world master octets telegram parts concerned = sym (ap (option_and_then parts_of) concerned.spelt) ∙ concerned.read

heard_octets : (world : World) (master : ℕ) (octets : List ℕ) (telegram : Telegram) (parts : Parts) → IsConcerned (heard world master octets) telegram parts → AreOctets octets → AreOctets parts.payload.items
unfolding heard
heard_octets world master octets telegram parts concerned below =
    payload_octets telegram parts (read_is world master octets telegram parts concerned)
    (unit_octets octets telegram (telegram_frame (frame_of octets) telegram concerned.spelt) below)

-- ---- one slave

-- what is true of a slave behind this place
record IsReached (count : ℕ) (slave : SlaveRecord) : Type 0 where
  pub reachable : is_reachable slave ≡ true
  pub later : has_place_of_chk_cfg count slave ≡ true
  pub remembers : AreRemembered slave.description slave.memory

low_by : (count since : ℕ) (holder : Option ℕ) → HasPlace count since holder → since ≤ count
low_by count since None place = omega (arith, place)
low_by count since (Some h) place = place.1

second_holds : (a b : Bool) → b ≡ true → (a || b) ≡ true
second_holds true b is = refl
second_holds false b is = is

later_low : (state : State) (since count : ℕ) → since ≤ count → (not (is_in_data_exch state) || ltb since (count + 1)) ≡ true
later_low state since count low = second_holds (not (is_in_data_exch state)) (ltb since (count + 1)) (lt-ltb since (count + 1) (omega (arith, low)))

low_still : (b : Bool) (since count : ℕ) → since ≤ count → cond b 0 since ≤ count
low_still true since count low = omega arith
low_still false since count low = low

later_act : (slave : SlaveRecord) (act : Act) (count : ℕ) → slave.since ≤ count → has_place_of_chk_cfg (count + 1) (acted slave act) ≡ true
unfolding acted
later_act slave (locks sender place prm) count low = refl
later_act slave other count low = later_low (acted slave other).state (cond (releases slave other) 0 slave.since) count (low_still (releases slave other) slave.since count low)

later_executed : (slave : SlaveRecord) (sender place count : ℕ) (parts : Parts) (rule : Rule) → slave.since ≤ count → has_place_of_chk_cfg (count + 1) (executed slave sender place parts rule) ≡ true
later_executed slave sender place count parts rules.Done low = later_act slave (service_act slave sender place parts.dsap parts.payload.items) count low
later_executed slave sender place count parts other low = later_low slave.state slave.since count low

later_served : (slave : SlaveRecord) (sender place count : ℕ) (telegram : Telegram) (parts : Parts) → slave.since ≤ count → has_place_of_chk_cfg (count + 1) (served slave sender place telegram parts) ≡ true
unfolding served
later_served slave sender place count telegram parts low = later_executed slave sender place count parts (rule_at sender telegram parts slave) low

executed_reachable : HasLaws → (slave : SlaveRecord) (sender place : ℕ) (telegram : Telegram) (parts : Parts) (rule : Rule) → rule_at sender telegram parts slave ≡ rule → AreOctets parts.payload.items
    → is_reachable slave ≡ true → is_reachable (executed slave sender place parts rule) ≡ true
executed_reachable laws slave sender place telegram parts rules.Done is below reachable =
    let done = passed sender telegram parts slave is in
    laws.goes_on slave (service_act slave sender place parts.dsap parts.payload.items) reachable
    (service_fits slave sender place parts.dsap parts.payload.items done.on done.long)
    (laws.suits_it slave sender place parts.dsap parts.payload.items below (not_false _ done.listed))
executed_reachable laws slave sender place telegram parts other is below reachable = reachable

served_reachable : HasLaws → (slave : SlaveRecord) (sender place : ℕ) (telegram : Telegram) (parts : Parts) → AreOctets parts.payload.items → is_reachable slave ≡ true
    → is_reachable (served slave sender place telegram parts) ≡ true
unfolding served
served_reachable laws slave sender place telegram parts below reachable =
    executed_reachable laws slave sender place telegram parts (rule_at sender telegram parts slave) refl below reachable

-- ---- what an operator does

op_suits : (op : Op) (slave : SlaveRecord) → suits slave (act_of_op op) ≡ true
op_suits (Input address octets) slave = refl
op_suits (Diag address ext stat overflow octets) slave = refl
op_suits (Busy address point on) slave = refl
op_suits (Tick time) slave = refl
op_suits Halt slave = refl

op_remembers : (op : Op) (slave : SlaveRecord) → AreRemembered slave.description slave.memory → AreRemembered (acted slave (act_of_op op)).description (acted slave (act_of_op op)).memory
unfolding acted
op_remembers op slave was = was

op_reached : HasLaws → (op : Op) (slave : SlaveRecord) (count : ℕ) → operator_fault_at op slave ≡ None → slave.since ≤ count → IsReached count slave → IsReached (count + 1) (acted slave (act_of_op op))
op_reached laws op slave count fit low reached = record {
  reachable = laws.goes_on slave (act_of_op op) reached.reachable (op_fits op slave fit) (op_suits op slave);
  later = later_act slave (act_of_op op) count low;
  remembers = op_remembers op slave reached.remembers;
}

-- ---- an event

served_reached : HasLaws → (world : World) (master : ℕ) (octets : ArrayVec ℕ) (slave : SlaveRecord) (telegram : Telegram) (parts : Parts) → IsConcerned (heard world master octets.items) telegram parts
    → AreOctets octets.items → IsSound slave → IsAnswering slave → IsServed master (address_of_slave slave) telegram → slave.since ≤ world.count → IsReached world.count slave
    → IsReached (world.count + 1) (served slave master (world.count + 1) telegram parts)
served_reached laws world master octets slave telegram parts concerned below sound answering for low reached = record {
  reachable = served_reachable laws slave master (world.count + 1) telegram parts (heard_octets world master octets.items telegram parts concerned below) reached.reachable;
  later = later_served slave master (world.count + 1) world.count telegram parts low;
  remembers = subst (λ (d : SlaveSpec). AreRemembered d (served slave master (world.count + 1) telegram parts).memory) (sym (served_description slave master (world.count + 1) telegram parts))
      (served_remembers laws.agree slave master (world.count + 1) telegram parts for (is_short slave sound answering)
      (giving slave sound (and_parts (has_reachable_hold slave && has_reachable_data slave && has_sound_faults slave) (has_choosable_shape slave) reached.reachable).1)
      (read_is world master octets.items telegram parts concerned) reached.remembers);
}

one_more : (count : ℕ) (slave : SlaveRecord) → slave.since ≤ count → IsReached count slave → IsReached (count + 1) slave
one_more count slave low reached = record { reachable = reached.reachable; later = later_low slave.state slave.since count low; remembers = reached.remembers }

way_reached : HasLaws → (world : World) (event : Event) (slave after : SlaveRecord) → HasOctets event → IsSound slave → IsAnswering slave → slave.since ≤ world.count → IsFitting event slave
    → IsWay world event slave after → IsReached world.count slave → IsReached (world.count + 1) after
way_reached laws world event slave after below sound answering low fit (leaves is) reached = subst (IsReached (world.count + 1)) (sym is) (one_more world.count slave low reached)
way_reached laws world event slave after below sound answering low fit (reaches master octets telegram parts request concerned asked is) reached =
    subst (IsReached (world.count + 1)) (sym is)
    (served_reached laws world master octets slave telegram parts concerned (subst HasOctets request below) sound answering
    (for_slave world master octets.items slave telegram parts (is_to_all telegram) refl concerned asked) low reached)
way_reached laws world event slave after below sound answering low fit (operates op operator done is) reached =
    subst (IsReached (world.count + 1)) (sym is) (op_reached laws op slave world.count (subst (λ (e : Event). IsFitting e slave) operator fit done) low reached)

all_reached : HasLaws → (world : World) (event : Event) (slaves : List SlaveRecord) → HasOctets event → AllByRecursion IsSound slaves → AllByRecursion IsAnswering slaves
    → AllByRecursion (IsPlaced world.count) slaves → AllByRecursion (IsFitting event) slaves → AllByRecursion (IsReached world.count) slaves
    → AllByRecursion (IsReached (world.count + 1)) (map (slave_after world event) slaves)
all_reached laws world event [] below sound answering placed fit reached = tt
all_reached laws world event (slave ∷ slaves) below sound answering placed fit reached = (
  way_reached laws world event slave (slave_after world event slave) below sound.0 answering.0 (low_by world.count slave.since slave.holder placed.0) fit.0 (way world event slave) reached.0,
  all_reached laws world event slaves below sound.1 answering.1 placed.1 fit.1 reached.1,
)

-- ---- a line

-- the octets of an event are as its types say
abbrev AreTyped : Event → Type 0
AreTyped event = HasShortReport event × HasOctets event

record HaveReached (world : World) : Type 0 where
  pub answers : HaveAnswers world
  pub places : HavePlaces world
  pub reached : AllByRecursion (IsReached world.count) world.slaves

reached_kept : HasLaws → KeepsUnder AreTyped HaveReached
unfolding effect
reached_kept laws world event running fit typed have = record {
  answers = answers_kept laws.sound world event running fit typed.0 have.answers;
  places = places_kept laws.sound world event running fit have.places;
  reached = all_reached laws world event world.slaves typed.1 (world_sound laws.sound world have.answers.lived) have.answers.answering have.places.placed
      (all_fitting world event have.answers.lived.ascend fit) have.reached;
}

nothing_remembered : (d : SlaveSpec) (masters : List ℕ) → AreRemembered d (no_memory masters)
nothing_remembered d [] = refl
nothing_remembered d (master ∷ masters) = nothing_remembered d masters

some_configuration : (description : SlaveSpec) → slave_is_within_limits description ≡ true → 1 ≤ length (configurations description)
some_configuration description within =
    let some = (and_parts _ (leb 1 (length description.cfgs.items)) within).1 in
    omega (arith, leb-true 1 (length description.cfgs.items) some, length-map description.cfgs.items (λ (c : ArrayVec ℕ). c.items))

start_reached : HasLaws → (masters : List ℕ) (descriptions : List SlaveSpec) → AllByRecursion (λ (d : SlaveSpec). slave_is_within_limits d ≡ true) descriptions
    → AllByRecursion (IsReached 0) (map (starting_slave masters) descriptions)
start_reached laws masters [] within = tt
start_reached laws masters (description ∷ descriptions) within = (
  record { reachable = laws.starts masters description (some_configuration description within.0); later = refl; remembers = nothing_remembered description masters },
  start_reached laws masters descriptions within.1,
)

both_typed : (events : List Event) → AllByRecursion HasShortReport events → AllByRecursion HasOctets events → AllByRecursion AreTyped events
both_typed [] short below = tt
both_typed (event ∷ events) short below = ((short.0, below.0), both_typed events short.1 below.1)

line_reached : HasLaws → (line : Description) (events : List Event) → opening_fault line ≡ None → AllByRecursion HasShortConfigurations line.slaves → AllByRecursion HasShortReport events
    → AllByRecursion HasOctets events → HaveReached (run (start_of (endless line)) events).world
line_reached laws line events opens short reports below =
    let known = opened line opens in
    kept_under AreTyped HaveReached (start_of (endless line)) events (reached_kept laws) (tt, tt) (both_typed events reports below) (record {
      answers = line_answers laws.sound (endless line) [] known.configured short tt;
      places = line_places laws.sound (endless line) [];
      reached = start_reached laws line.masters (ascending line.slaves) (ascending_have slave_is_within_limits line.slaves known.within);
    })

-- ---- the test

same_by : (xs ys : List ℕ) → xs ≡ ys → same_octets xs ys ≡ true
same_by xs ys is = subst (λ (l : List ℕ). same_octets xs l ≡ true) is (itself xs)
  where
    itself : (octets : List ℕ) → same_octets octets octets ≡ true
    itself [] = refl
    itself (x ∷ octets) = and_from (eqb x x) (same_octets octets octets) (eq-eqb x x refl) (itself octets)

reached_passes : (masters : List ℕ) (count : ℕ) (slave : SlaveRecord) → map (λ (m : MasterMemory). m.master) slave.memory ≡ masters → IsReached count slave → is_reachable_on masters count slave ≡ true
reached_passes masters count slave knows reached =
    and_from (is_reachable slave && has_place_of_chk_cfg count slave) (is_memory_of masters slave.description slave.memory)
    (and_from (is_reachable slave) (has_place_of_chk_cfg count slave) reached.reachable reached.later)
    (and_from (same_octets (map (λ (m : MasterMemory). m.master) slave.memory) masters) (list_all (is_remembered slave.description) slave.memory)
    (same_by (map (λ (m : MasterMemory). m.master) slave.memory) masters knows) reached.remembers)

all_pass : (masters : List ℕ) (count : ℕ) (slaves : List SlaveRecord) → AllByRecursion (λ s. map (λ (m : MasterMemory). m.master) s.memory ≡ masters) slaves → AllByRecursion (IsReached count) slaves
    → AllByRecursion (λ s. is_reachable_on masters count s ≡ true) slaves
all_pass masters count [] knows reached = tt
all_pass masters count (slave ∷ slaves) knows reached = (reached_passes masters count slave knows.0 reached.0, all_pass masters count slaves knows.1 reached.1)

pub line_passes : HasLaws → (line : Description) (events : List Event) → opening_fault line ≡ None → AllByRecursion HasShortConfigurations line.slaves → AllByRecursion HasShortReport events
    → AllByRecursion HasOctets events
    → AllByRecursion (λ s. is_reachable_on (run (start_of (endless line)) events).world.masters (run (start_of (endless line)) events).world.count s ≡ true) (run (start_of (endless line)) events).world.slaves
line_passes laws line events opens short reports below =
    let world = (run (start_of (endless line)) events).world in
    all_pass world.masters world.count world.slaves (of_a_line laws.sound (endless line) events).remembers (line_reached laws line events opens short reports below).reached
