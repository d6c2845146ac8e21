-- detail
-- Global_Control in words (IEC 61158-6-3, Global_Control request).
use Rattle.std.specs.Prelude.{codes, ℕ, Bool, List, [], ◌∷◌, ◌++◌}
use Rattle.dp_globalctl.specs.declared.command.Command.{Command}
use Rattle.dp_globalctl.specs.Command.{command_of}
use Rattle.explain_octets.specs.Words.{listed, groups_text}

-- the bits of the first octet
abbrev pub control_rows : Command → List (Bool × List ℕ)
control_rows command =
    (command.clear_data, codes "Clear_Data")
    ∷ (command.unfreeze, codes "Unfreeze")
    ∷ (command.freeze, codes "Freeze")
    ∷ (command.unsync, codes "Unsync")
    ∷ (command.sync, codes "Sync")
    ∷ []

-- what the command asks for, and of which slaves: no bit is Operate (own), and Group_Select 0 is for every slave
unfoldable pub asked_of : Command → List ℕ
asked_of command = listed (codes "Operate") [] (control_rows command) ++ codes "; " ++ groups_text (codes "every slave") command.group

-- the two octets of a Global_Control
abbrev pub command_text : List ℕ → List ℕ
command_text octets = asked_of (command_of octets)
