-- detail
-- The places of the journal that the holds of slaves need (own).
use Rattle.std.specs.Prelude.{ℕ, ◌+◌, ◌-◌, nat_le, Bool, true, not, ◌&&◌, ◌||◌, if◌then◌else◌, List, [], ◌∷◌}
use Rattle.std.specs.List.{list_all}
use Rattle.dp_sap.specs.States.{is_in_data_exch}
use Rattle.dp_slave.specs.SlaveRecord.{SlaveRecord, is_held}

-- how many places a slave needs from this one on: that of its lock, and in Data_Exch also that of the Chk_Cfg after the lock
abbrev pub needs_from : ℕ → SlaveRecord → ℕ
needs_from place slave = if is_held slave && nat_le place slave.since then if is_in_data_exch slave.state then 2 else 1 else 0

-- this number of places is enough for the slaves
abbrev pub have_room : ℕ → ℕ → List SlaveRecord → Bool
have_room place room [] = true
have_room place room (slave ∷ slaves) = nat_le (needs_from place slave) room && have_room place (room - needs_from place slave) slaves

-- from the lock of the slave to this place there are enough places for all slaves
abbrev pub has_room_from : ℕ → List SlaveRecord → SlaveRecord → Bool
has_room_from count slaves slave =
    not (is_held slave) || nat_le slave.since count && have_room slave.since (count - slave.since + 1) slaves

abbrev pub have_places : ℕ → List SlaveRecord → Bool
have_places count slaves = list_all (has_room_from count slaves) slaves
