-- A line goes on from each of its worlds.
use Rattle.std.proofs.Common.{◌≡◌, ℕ, ◌+◌, ◌<◌, ◌≤◌, Bool, true, false, not, cond, eqb, leb, List, [], ◌∷◌, length, map, Option, Some, None, refl, sym, ap, subst, ◌∙◌, arith}
use Rattle.std.specs.Prelude.{◌&&◌, ◌||◌, find, is_none, nat_lt}
use Rattle.std.specs.List.{AllByRecursion, list_any}
use Rattle.std.specs.Option.{option_map_or}
use Rattle.std.proofs.lemmas.Bool.{and_from, and_parts, le-leb, leb-true, leb-false, lt-ltb, ne_eqb, or_from, not_from_false}
use Rattle.std.proofs.lemmas.List.{length-map}
use Rattle.arrayvec.specs.ArrayVec.{ArrayVec}
use Rattle.dp_slave.specs.declared.description.SlaveSpec.{SlaveSpec}
use Rattle.dp_slave.specs.SlaveRecord.{IsReleased, SlaveRecord, configurations, is_held, released}
use Rattle.dp_slave.specs.Sound.{agree, is_sound}
use Rattle.dp_slave.specs.Soundness.{IsSound}
use Rattle.dp_line.specs.declared.event.Event.{Event}
use Rattle.dp_line.specs.declared.fault.OperatorFault.{OperatorFault}
use Rattle.dp_line.specs.declared.fault.RestoreFault.TheVariants.{SharedPlace, UnsoundCount}
use Rattle.dp_line.specs.World.{Description, HaveMasters, World, ascending, is_last_place, opening_fault, slave_is_within_limits, start_of}
use Rattle.dp_line.specs.Endless.{endless}
use Rattle.dp_line.specs.Bus.{HasPlace, HasShortConfigurations, HasShortReport}
use Rattle.dp_line.specs.EventOctets.{HasOctets}
use Rattle.dp_line.specs.Hearing.{heard}
use Rattle.dp_line.specs.Effects.{effect, halted_world, held_addresses, slave_after}
use Rattle.dp_line.specs.Served.{served}
use Rattle.dp_line.specs.Steps.{run, step, step_by_fit, reported_halted, unrecorded}
use Rattle.dp_line.specs.Events.{operator_fault}
use Rattle.dp_line.specs.SoundWorld.{fault_of_slave, have_own_places, has_sound_count, has_sound_end, is_reachable_on, is_slave_on, is_sound_on, restore_fault}
use Rattle.dp_line.proofs.Starting.{opened}
use Rattle.dp_line.proofs.Kept.{HasMaster, has_after, op_holder}
use Rattle.dp_line.proofs.Moves.{served_move}
use Rattle.dp_line.proofs.BusSteps.{IsWay, leaves, reaches, operates, Keeps, all_start, kept_run, way}
use Rattle.dp_line.proofs.BusVerdict.{heard_by_slaves, not_false}
use Rattle.dp_line.proofs.BusLives.{world_sound}
use Rattle.dp_line.proofs.BusHalt.{all_released}
use Rattle.dp_line.proofs.BusPlaces.{AreApart, IsApart, IsPlaced, line_places}
use Rattle.dp_line.proofs.Descriptions.{is_of}
use Rattle.dp_line.proofs.Restorable.{ascending_have}
use Rattle.dp_line.specs.NeededPlaces.{have_places}
use Rattle.dp_line.proofs.NeededPlaces.{places_enough}
use Rattle.dp_line.proofs.ReachableLines.{HasLaws, line_passes}

-- ---- each holder is a master

known_sender : (world : World) (master : ℕ) (octets : List ℕ) → not (heard world master octets).is_master ≡ false → list_any (λ other. eqb other master) world.masters ≡ true
unfolding heard
known_sender world master octets e = not_false (list_any (λ other. eqb other master) world.masters) e

way_master : (world : World) (event : Event) (slave after : SlaveRecord) → IsWay world event slave after → HasMaster world.masters slave.holder → HasMaster world.masters after.holder
way_master world event slave after (leaves is) has = subst (λ (s : SlaveRecord). HasMaster world.masters s.holder) (sym is) has
way_master world event slave after (reaches master octets telegram parts request concerned asked is) has =
    subst (λ (s : SlaveRecord). HasMaster world.masters s.holder) (sym is)
    (has_after world.masters slave (served slave master (world.count + 1) telegram parts) master (world.count + 1)
    (known_sender world master octets.items (heard_by_slaves (heard world master octets.items) concerned.concerned).master)
    (served_move slave master (world.count + 1) telegram parts) has)
way_master world event slave after (operates op operator done is) has = subst (λ (s : SlaveRecord). HasMaster world.masters s.holder) (sym is) (op_holder world.masters op slave has)

masters_after : (world : World) (event : Event) (slaves : List SlaveRecord) → HaveMasters world.masters slaves → HaveMasters world.masters (map (slave_after world event) slaves)
masters_after world event [] have = tt
masters_after world event (slave ∷ slaves) have =
    (way_master world event slave (slave_after world event slave) (way world event slave) have.0, masters_after world event slaves have.1)

abbrev OnlyMastersHold : World → Type 0
OnlyMastersHold world = HaveMasters world.masters world.slaves

masters_hold : Keeps OnlyMastersHold
unfolding effect
masters_hold world event running fit have = masters_after world event world.slaves have

line_masters : (line : Description) (events : List Event) → OnlyMastersHold (run (start_of line) events).world
line_masters line events =
    kept_run OnlyMastersHold (start_of line) events masters_hold (all_start (λ slave. HasMaster line.masters slave.holder) line.masters (ascending line.slaves) (λ description. tt))

-- ---- a line that is not halted has a place left

abbrev HasRoom : World → Type 0
HasRoom world = world.halted ≡ false → world.count < world.capacity

room_effect : (world : World) (event : Event) → is_last_place world ≡ false → HasRoom (effect world event).world
unfolding effect
room_effect world event free = λ running. omega (arith, leb-false world.capacity (world.count + 1) free)

room_fitting : (world : World) (event : Event) (b : Bool) → is_last_place world ≡ b
    → HasRoom (cond b (record { world = halted_world world; answer = unrecorded (reported_halted event) (Some (held_addresses world)) }) (effect world event)).world
unfolding effect
room_fitting world event true last = λ running. absurd cc
room_fitting world event false free = room_effect world event free

room_fit : (world : World) (event : Event) (fit : Option OperatorFault) → HasRoom world → HasRoom (step_by_fit world event fit).world
room_fit world event (Some fault) room = room
room_fit world event None room = room_fitting world event (is_last_place world) refl

room_by : (world : World) (event : Event) (b : Bool) → HasRoom world
    → HasRoom (cond b (record { world = world; answer = unrecorded (reported_halted event) None }) (step_by_fit world event (operator_fault world event))).world
room_by world event true room = room
room_by world event false room = room_fit world event (operator_fault world event) room

room_step : (world : World) (event : Event) → HasRoom world → HasRoom (step world event).world
unfolding step
room_step world event room = room_by world event world.halted room

room_run : (world : World) (events : List Event) → HasRoom world → HasRoom (run world events).world
room_run world [] room = room
room_run world (event ∷ events) room = room_run (step world event).world events (room_step world event room)

-- ---- the tests of a slave

abbrev PassesTest : Type 0
PassesTest = (slave : SlaveRecord) → IsSound slave → slave.shape < length (configurations slave.description) → is_sound slave ≡ true

-- what is true of a slave of a line
record IsOfLine (masters : List ℕ) (count : ℕ) (slave : SlaveRecord) : Type 0 where
  pub sound : IsSound slave
  pub configured : 1 ≤ length (configurations slave.description)
  pub master : HasMaster masters slave.holder
  pub placed : IsPlaced count slave

master_test : (masters : List ℕ) (holder : Option ℕ) → HasMaster masters holder → option_map_or (λ h. list_any (λ other. eqb other h) masters) holder true ≡ true
master_test masters None has = refl
master_test masters (Some h) has = has

low_by : (count since : ℕ) (holder : Option ℕ) → HasPlace count since holder → since ≤ count
low_by count since None place = omega (arith, place)
low_by count since (Some h) place = place.1

lock_by : (count since : ℕ) (holder : Option ℕ) → HasPlace count since holder → agree (eqb since 0) (is_none holder) ≡ true
lock_by count since None place = ap (λ (n : ℕ). agree (eqb n 0) true) place
lock_by count since (Some h) place = ap (λ (b : Bool). agree b false) (ne_eqb since 0 (λ e. omega (arith, e, place.0)))

passes : PassesTest → (masters : List ℕ) (count : ℕ) (slave : SlaveRecord) → IsOfLine masters count slave → is_sound_on masters count slave ≡ true
passes test masters count slave is =
    let has : Bool = option_map_or (λ h. list_any (λ other. eqb other h) masters) slave.holder true in
    and_from (is_sound slave && has && leb slave.since count) (agree (eqb slave.since 0) (is_none slave.holder))
    (and_from (is_sound slave && has) (leb slave.since count)
    (and_from (is_sound slave) has (test slave is.sound (is.sound.shaped is.configured)) (master_test masters slave.holder is.master))
    (le-leb slave.since count (low_by count slave.since slave.holder is.placed)))
    (lock_by count slave.since slave.holder is.placed)

all_of : (masters : List ℕ) (count : ℕ) (slaves : List SlaveRecord) → AllByRecursion IsSound slaves → AllByRecursion (λ (d : SlaveSpec). slave_is_within_limits d ≡ true) (map (λ (s : SlaveRecord). s.description) slaves)
    → HaveMasters masters slaves → AllByRecursion (IsPlaced count) slaves → AllByRecursion (IsOfLine masters count) slaves
all_of masters count [] sound within have placed = tt
all_of masters count (slave ∷ slaves) sound within have placed =
    let some = (and_parts _ (leb 1 (length slave.description.cfgs.items)) within.0).1 in (
      record {
        sound = sound.0;
        configured = omega (arith, leb-true 1 (length slave.description.cfgs.items) some, length-map slave.description.cfgs.items (λ (c : ArrayVec ℕ). c.items));
        master = have.0;
        placed = placed.0;
      },
      all_of masters count slaves sound.1 within.1 have.1 placed.1,
    )

none_unsound : PassesTest → (masters : List ℕ) (count : ℕ) (slaves : List SlaveRecord) → AllByRecursion (IsOfLine masters count) slaves
    → AllByRecursion (λ s. is_reachable_on masters count s ≡ true) slaves → find (λ s. not (is_slave_on masters count s)) slaves ≡ None
none_unsound test masters count [] all reached = refl
none_unsound test masters count (slave ∷ slaves) all reached =
    ap (λ (b : Bool). cond (not b) (Some slave) (find (λ s. not (is_slave_on masters count s)) slaves))
    (and_from (is_sound_on masters count slave) (is_reachable_on masters count slave) (passes test masters count slave all.0) reached.0)
    ∙ none_unsound test masters count slaves all.1 reached.1

-- ---- no two locks have one place

other_place : (count : ℕ) (slave other : SlaveRecord) (holder another : Option ℕ) → slave.holder ≡ holder → other.holder ≡ another → HasPlace count slave.since holder → HasPlace count other.since another
    → IsApart slave other → eqb slave.since 0 ≡ false → eqb other.since slave.since ≡ false
other_place count slave other None another is also place placed apart held = let nothing : eqb slave.since 0 ≡ true = ap (λ (n : ℕ). eqb n 0) place in absurd cc
other_place count slave other (Some h) None is also place placed apart held = ne_eqb other.since slave.since (λ e. omega (arith, e, place.0, placed))
other_place count slave other (Some h) (Some g) is also place placed apart held =
    ne_eqb other.since slave.since (λ e. apart (ap is_held_of is) (ap is_held_of also) (sym e))
  where
    is_held_of : Option ℕ → Bool
    is_held_of None = false
    is_held_of (Some h) = true

none_at : (count : ℕ) (slave : SlaveRecord) (slaves : List SlaveRecord) → IsPlaced count slave → AllByRecursion (IsPlaced count) slaves → AllByRecursion (IsApart slave) slaves → eqb slave.since 0 ≡ false
    → list_any (λ other. eqb other.since slave.since) slaves ≡ false
none_at count slave [] place placed apart held = refl
none_at count slave (other ∷ slaves) place placed apart held =
    or_from (eqb other.since slave.since) (list_any (λ o. eqb o.since slave.since) slaves)
    (other_place count slave other slave.holder other.holder refl refl place placed.0 apart.0 held) (none_at count slave slaves place placed.1 apart.1 held)

own_by : (b c : Bool) → (b ≡ false → c ≡ false) → (b || not c) ≡ true
own_by true c none = refl
own_by false c none = not_from_false c (none refl)

own_places : (count : ℕ) (slaves : List SlaveRecord) → AllByRecursion (IsPlaced count) slaves → AreApart slaves → have_own_places slaves ≡ true
own_places count [] placed apart = refl
own_places count (slave ∷ slaves) placed apart =
    and_from (eqb slave.since 0 || not (list_any (λ other. eqb other.since slave.since) slaves)) (have_own_places slaves)
    (own_by (eqb slave.since 0) (list_any (λ other. eqb other.since slave.since) slaves) (none_at count slave slaves placed.0 placed.1 apart.0))
    (own_places count slaves placed.1 apart.1)

-- ---- the count

free_when_released : (slave : SlaveRecord) → IsReleased slave → is_held slave ≡ false
unfolding released
free_when_released slave is = sym (ap is_held is)

none_held : (slaves : List SlaveRecord) → AllByRecursion IsReleased slaves → list_any is_held slaves ≡ false
none_held [] all = refl
none_held (slave ∷ slaves) all = or_from (is_held slave) (list_any is_held slaves) (free_when_released slave all.0) (none_held slaves all.1)

-- a halted line has recorded its halt
abbrev HasRecorded : World → Type 0
HasRecorded world = world.halted ≡ true → 1 ≤ world.count

recorded_kept : Keeps HasRecorded
unfolding effect
recorded_kept world event running fit has = λ halted. omega arith

line_recorded : (line : Description) (events : List Event) → HasRecorded (run (start_of line) events).world
line_recorded line events = kept_run HasRecorded (start_of line) events recorded_kept (λ halted. absurd cc)

count_by : (world : World) (b : Bool) → world.halted ≡ b → (world.halted ≡ true → AllByRecursion IsReleased world.slaves) → HasRecorded world → HasRoom world
    → cond b (not (list_any is_held world.slaves) && leb 1 world.count) (nat_lt world.count world.capacity) ≡ true
count_by world true halted quiet recorded room =
    and_from (not (list_any is_held world.slaves)) (leb 1 world.count) (not_from_false (list_any is_held world.slaves) (none_held world.slaves (quiet halted)))
    (le-leb 1 world.count (recorded halted))
count_by world false running quiet recorded room = lt-ltb world.count world.capacity (room running)

no_fault : (found : Option SlaveRecord) (own right : Bool) → found ≡ None → own ≡ true → right ≡ true
    → fault_of_slave found (cond (not own) (Some SharedPlace) (cond (not right) (Some UnsoundCount) None)) ≡ None
no_fault found own right none is count = rw (none, is, count) refl

pub goes_on_from_each : HasLaws → PassesTest → (line : Description) (events : List Event) → opening_fault line ≡ None → AllByRecursion HasShortConfigurations line.slaves
    → AllByRecursion HasShortReport events → AllByRecursion HasOctets events → restore_fault (run (start_of (endless line)) events).world ≡ None
goes_on_from_each laws test line events opens short reports below =
    let sound = laws.sound in
    let world = (run (start_of (endless line)) events).world in
    let places = line_places sound (endless line) events in
    let of = is_of (endless line) events in
    let masters = line_masters (endless line) events in
    let all = all_of world.masters world.count world.slaves (world_sound sound world places.lived)
    (subst (λ (ds : List SlaveSpec). AllByRecursion (λ d. slave_is_within_limits d ≡ true) ds) (sym of.slaves) (ascending_have slave_is_within_limits line.slaves (opened line opens).within))
    masters places.placed in
    no_fault (find (λ s. not (is_slave_on world.masters world.count s)) world.slaves) (have_own_places world.slaves) (has_sound_count world)
    (none_unsound test world.masters world.count world.slaves all (line_passes laws line events opens short reports below)) (own_places world.count world.slaves places.placed places.apart)
    (and_from (have_places world.count world.slaves) (has_sound_end world) (places_enough sound (endless line) events)
    (count_by world world.halted refl (all_released (endless line) events) (line_recorded (endless line) events) (room_run (start_of (endless line)) events (λ running. omega arith))))
