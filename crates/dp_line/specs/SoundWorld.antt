-- detail
-- The worlds from which a line goes on (own).
use Rattle.std.specs.Prelude.{ℕ, ◌==◌, nat_le, nat_lt, Bool, true, not, ◌&&◌, ◌||◌, if◌then◌else◌, List, [], ◌∷◌, find, Option, Some, None, is_none}
use Rattle.std.specs.List.{list_any}
use Rattle.std.specs.Option.{option_map_or}
use Rattle.dp_slave.specs.SlaveRecord.{SlaveRecord, is_held}
use Rattle.dp_sap.specs.States.{is_in_data_exch}
use Rattle.dp_slave.specs.Sound.{agree, is_sound}
use Rattle.dp_slave.specs.Reachable.{is_reachable}
use Rattle.dp_line.specs.NeededPlaces.{have_places}
use Rattle.dp_line.specs.RememberedReplies.{is_memory_of}
use Rattle.dp_line.specs.declared.fault.RestoreFault.{RestoreFault}
use Rattle.dp_line.specs.declared.fault.RestoreFault.TheVariants.{UnsoundSlave, SharedPlace, UnsoundCount}
use Rattle.dp_line.specs.World.{World, address_of_slave}

-- a slave of a line with these masters, behind this place: it is sound, its holder is one of the masters, its lock has one of the places so far,
-- and 0 exactly if nobody holds it
abbrev pub is_sound_on : List ℕ → ℕ → SlaveRecord → Bool
is_sound_on masters count slave =
    is_sound slave
    && option_map_or (λ holder. list_any (λ other. other == holder) masters) slave.holder true
    && nat_le slave.since count
    && agree (slave.since == 0) (is_none slave.holder)

-- in Data_Exch its lock is not at the last place so far, because the Chk_Cfg after it has a place of its own
abbrev pub has_place_of_chk_cfg : ℕ → SlaveRecord → Bool
has_place_of_chk_cfg count slave = not (is_in_data_exch slave.state) || nat_lt slave.since count

-- a slave to which the events of a line with these masters can have led, up to this place, as far as single fields show it
abbrev pub is_reachable_on : List ℕ → ℕ → SlaveRecord → Bool
is_reachable_on masters count slave =
    is_reachable slave && has_place_of_chk_cfg count slave && is_memory_of masters slave.description slave.memory

-- both
abbrev pub is_slave_on : List ℕ → ℕ → SlaveRecord → Bool
is_slave_on masters count slave = is_sound_on masters count slave && is_reachable_on masters count slave

-- no two of them were locked at one place
abbrev pub have_own_places : List SlaveRecord → Bool
have_own_places [] = true
have_own_places (slave ∷ slaves) =
    (slave.since == 0 || not (list_any (λ other. other.since == slave.since) slaves)) && have_own_places slaves

-- a halted line has released its slaves and recorded at least the halt, and one that runs has a place left
abbrev pub has_sound_end : World → Bool
has_sound_end world =
    if world.halted then not (list_any is_held world.slaves) && nat_le 1 world.count else nat_lt world.count world.capacity

-- and its places so far are enough for the locks of its slaves and for the Chk_Cfg after them
abbrev pub has_sound_count : World → Bool
has_sound_count world = have_places world.count world.slaves && has_sound_end world

abbrev pub fault_of_slave : Option SlaveRecord → Option RestoreFault → Option RestoreFault
fault_of_slave (Some slave) other = Some (UnsoundSlave (address_of_slave slave))
fault_of_slave None other = other

-- why no line goes on from a world: the first slave that no line can have, then a place of two locks, then the count
abbrev pub restore_fault : World → Option RestoreFault
restore_fault world =
    fault_of_slave (find (λ slave. not (is_slave_on world.masters world.count slave)) world.slaves)
    (if not (have_own_places world.slaves) then Some SharedPlace
    else if not (has_sound_count world) then Some UnsoundCount
    else None)
