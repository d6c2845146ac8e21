-- helper
-- The command that a `Command` of the program stands for.
use Rattle.std.specs.Prelude.{Option, Some}
use Rattle.rack_script.specs.Commands.{Command, choose_line, sending_of, write_journal, operation_of}
use Rattle.rack_script.specs.declared.command.Command.{Command as Read}
use Rattle.rack_script.specs.declared.command.Command.TheVariants as read

-- None if the words are no hex digits, or the line is none of the operator's
abbrev pub command_view : Read → Option Command
command_view (read.ChooseLine number) = Some (choose_line number)
command_view (read.Send master digits) = sending_of master digits.now
command_view read.WriteJournal = Some write_journal
command_view (read.Operate line) = operation_of line.now
