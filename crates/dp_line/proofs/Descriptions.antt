-- A line keeps the description that it was opened from.
use Rattle.std.proofs.Common.{◌≡◌, ℕ, true, List, [], ◌∷◌, map, Option, Some, None, refl, sym, ap, subst, ◌∙◌}
use Rattle.std.specs.Prelude.{IfSome}
use Rattle.std.specs.List.{AllByRecursion, filter_map, range_with_len, cons_option}
use Rattle.std.proofs.lemmas.Option.{same_Some}
use Rattle.dp_telegram.specs.Access.{global_address}
use Rattle.dp_sap.specs.AccessTable.{may_lock}
use Rattle.dp_slave.specs.declared.description.SlaveSpec.{SlaveSpec}
use Rattle.dp_slave.specs.SlaveRecord.{SlaveRecord, starting_slave}
use Rattle.dp_line.specs.declared.event.Event.{Event}
use Rattle.dp_line.specs.World.{Description, World, ascending, described_at, slave_at, start_of}
use Rattle.dp_line.specs.Effects.{effect, slave_after}
use Rattle.dp_line.specs.Steps.{run}
use Rattle.dp_line.specs.Bus.{IsHeldByLocker}
use Rattle.dp_line.proofs.Starting.{described_address}
use Rattle.dp_line.proofs.BusSteps.{Keeps, description_kept, found_address, found_is, kept_run}
use Rattle.dp_line.proofs.ListedMasters.{lockers_hold}

abbrev descriptions : List SlaveRecord → List SlaveSpec
descriptions slaves = map (λ slave. slave.description) slaves

-- masters, capacity and slaves are those of the description
pub record IsOf (line : Description) (world : World) : Type 0 where
  pub masters : world.masters ≡ line.masters
  pub capacity : world.capacity ≡ line.capacity
  pub slaves : descriptions world.slaves ≡ ascending line.slaves

descriptions_after : (world : World) (event : Event) (slaves : List SlaveRecord) → descriptions (map (slave_after world event) slaves) ≡ descriptions slaves
descriptions_after world event [] = refl
descriptions_after world event (slave ∷ slaves) =
    ap (λ (d : SlaveSpec). d ∷ descriptions (map (slave_after world event) slaves)) (description_kept world event slave)
    ∙ ap (λ (l : List SlaveSpec). slave.description ∷ l) (descriptions_after world event slaves)

kept : (line : Description) → Keeps (IsOf line)
unfolding effect
kept line world event running fit is = record { masters = is.masters; capacity = is.capacity; slaves = descriptions_after world event world.slaves ∙ is.slaves }

at_start : (masters : List ℕ) (described : List SlaveSpec) → descriptions (map (starting_slave masters) described) ≡ described
at_start masters [] = refl
at_start masters (d ∷ described) = ap (λ (l : List SlaveSpec). d ∷ l) (at_start masters described)

pub is_of : (line : Description) (events : List Event) → IsOf line (run (start_of line) events).world
is_of line events =
    kept_run (IsOf line) (start_of line) events (kept line) (record { masters = refl; capacity = refl; slaves = at_start line.masters (ascending line.slaves) })

-- each of these descriptions is the one that is described for its address
abbrev IsDescribed : List SlaveSpec → SlaveSpec → Type 0
IsDescribed described d = described_at described d.address ≡ Some d

one_described : (described : List SlaveSpec) (address : ℕ) (found : Option SlaveSpec) (others : List SlaveSpec) → described_at described address ≡ found
    → AllByRecursion (IsDescribed described) others → AllByRecursion (IsDescribed described) (cons_option found others)
one_described described address None others is all = all
one_described described address (Some d) others is all =
    (subst (λ (a : ℕ). described_at described a ≡ Some d) (sym (described_address described address d is)) is, all)

each_described : (described : List SlaveSpec) (addresses : List ℕ) → AllByRecursion (IsDescribed described) (filter_map (described_at described) addresses)
each_described described [] = tt
each_described described (address ∷ addresses) =
    one_described described address (described_at described address) (filter_map (described_at described) addresses) refl (each_described described addresses)

all_described : (described : List SlaveSpec) → AllByRecursion (IsDescribed described) (ascending described)
unfolding ascending
all_described described = each_described described (range_with_len 0 global_address)

of_slaves : (P : SlaveSpec → Type 0) (slaves : List SlaveRecord) → AllByRecursion P (descriptions slaves) → AllByRecursion (λ slave. P slave.description) slaves
of_slaves P [] all = tt
of_slaves P (slave ∷ slaves) all = (all.0, of_slaves P slaves all.1)

-- so the slave of an address has the description that the line has for it
pub described : (line : Description) (events : List Event) (address : ℕ) (slave : SlaveRecord) → slave_at (run (start_of line) events).world address ≡ Some slave
    → described_at line.slaves address ≡ Some slave.description
described line events address slave here =
    let slaves = (run (start_of line) events).world.slaves in
    let all = of_slaves (IsDescribed line.slaves) slaves (subst (AllByRecursion (IsDescribed line.slaves)) (sym (is_of line events).slaves) (all_described line.slaves)) in
    subst (λ (a : ℕ). described_at line.slaves a ≡ Some slave.description) (found_address slaves address slave here)
    (found_is (λ s. IsDescribed line.slaves s.description) slaves address slave all here)

-- and its lists let the holder lock it
held_by : (holder : ℕ) (slave : SlaveRecord) (description : SlaveSpec) → slave.holder ≡ Some holder → slave.description ≡ description → IsHeldByLocker slave
    → may_lock description.lists holder ≡ true
held_by holder slave description held same locker =
    subst (λ (d : SlaveSpec). may_lock d.lists holder ≡ true) same
    (subst (λ (h : Option ℕ). IfSome h (λ m. may_lock slave.description.lists m ≡ true)) held locker)

pub locker_holds : (line : Description) (events : List Event) (address holder : ℕ) (slave : SlaveRecord) (description : SlaveSpec)
    → slave_at (run (start_of line) events).world address ≡ Some slave → slave.holder ≡ Some holder → described_at line.slaves address ≡ Some description
    → may_lock description.lists holder ≡ true
locker_holds line events address holder slave description here held is =
    held_by holder slave description held (same_Some _ _ (sym (described line events address slave here) ∙ is))
    (found_is IsHeldByLocker (run (start_of line) events).world.slaves address slave (lockers_hold line events) here)
