-- promise
-- The contents of a Global_Control (IEC 61158-6-3, Global_Control request).
use Rattle.std.specs.Prelude.{ℕ, ◌==◌, ◌||◌, not, Bool, List, bit_and, slice_index}
use Rattle.dp_globalctl.specs.declared.command.Command.{Command}
use Rattle.dp_slave.specs.Acts.{Control}
use Rattle.dp_slave.specs.Services.{control_of}

-- the control bits of a command
abbrev pub control_in : Command → Control
control_in command = record {
  clear_data = command.clear_data;
  unfreeze = command.unfreeze;
  freeze = command.freeze;
  unsync = command.unsync;
  sync = command.sync;
}

-- octet 1 has the bits, octet 2 is Group_Select
abbrev pub command_of : List ℕ → Command
command_of octets =
    let control = control_of octets in
    record {
      clear_data = control.clear_data;
      unfreeze = control.unfreeze;
      freeze = control.freeze;
      unsync = control.unsync;
      sync = control.sync;
      group = slice_index octets 1;
    }

-- Group_Select 0 selects every slave; any other value selects a slave if it has a bit in common with the slave's Group_Ident
abbrev pub selects : ℕ → ℕ → Bool
selects group_select group_ident = group_select == 0 || not (bit_and group_select group_ident == 0)
