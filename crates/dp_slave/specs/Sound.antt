-- detail
-- A slave that is sound, as a test (own).
use Rattle.std.specs.Prelude.{ℕ, ◌==◌, nat_eq, nat_lt, Bool, not, ◌&&◌, ◌||◌, if◌then◌else◌, List, length, Some, None, is_some, is_none}
use Rattle.std.specs.List.{list_all}
use Rattle.std.specs.Option.{option_eq}
use Rattle.dp_sap.specs.States.{is_in_data_exch, is_in_wait_prm}
use Rattle.dp_slave.specs.SlaveRecord.{SlaveRecord, configurations, full_time}

-- both are true, or neither is
abbrev pub agree : Bool → Bool → Bool
agree a b = if a then b else not b

abbrev pub are_zero : List ℕ → Bool
are_zero octets = list_all (λ octet. octet == 0) octets

-- outputs and latest data are zero
abbrev pub has_zero_outputs : SlaveRecord → Bool
has_zero_outputs slave = are_zero slave.outputs && are_zero slave.latest

-- it is in Wait_Prm exactly if nobody holds it, has parameters exactly if a master does, and its watchdog runs exactly if they ask for one
abbrev pub has_sound_lock : SlaveRecord → Bool
has_sound_lock slave =
    agree (is_in_wait_prm slave.state) (is_none slave.holder)
    && agree (is_some slave.prm) (is_some slave.holder)
    && agree (is_some slave.left) (is_some (full_time slave))

-- the shape is one of its configurations; in Data_Exch its holder sent that one, else none
abbrev pub has_sound_shape : SlaveRecord → Bool
has_sound_shape slave =
    nat_lt slave.shape (length (configurations slave.description))
    && option_eq nat_eq slave.cfg (if is_in_data_exch slave.state then Some slave.shape else None)

-- outside Data_Exch its outputs are zero and no mode is on; if it is cleared, it is fail-safe and in Data_Exch, and its outputs are zero
abbrev pub has_sound_data : SlaveRecord → Bool
has_sound_data slave =
    (is_in_data_exch slave.state || has_zero_outputs slave && not slave.sync_mode && not slave.freeze_mode)
    && (not slave.cleared || slave.description.failsafe && is_in_data_exch slave.state && has_zero_outputs slave)

abbrev pub is_sound : SlaveRecord → Bool
is_sound slave = has_sound_lock slave && has_sound_shape slave && has_sound_data slave
