-- helper
-- Commands, and the slaves that they select.
use Rattle.std.specs.Prelude.{◌≡◌, true, false, [], ◌∷◌, refl}
use Rattle.dp_globalctl.specs.Command.{command_of, selects}

pub sync_bit : command_of (0x20 ∷ 0x00 ∷ []) ≡ record { clear_data = false; unfreeze = false; freeze = false; unsync = false; sync = true; group = 0 }
sync_bit = refl

-- bits 0, 6 and 7 are ignored
pub other_bits : command_of (0xC1 ∷ 0x02 ∷ []) ≡ record { clear_data = false; unfreeze = false; freeze = false; unsync = false; sync = false; group = 2 }
other_bits = refl

-- Group_Select 0 selects every slave, also one in no group
pub all_are_selected : selects 0 0 ≡ true
all_are_selected = refl

pub group_in_common : selects 0x81 0x01 ≡ true
group_in_common = refl

pub no_group_in_common : selects 0x81 0x42 ≡ false
no_group_in_common = refl
