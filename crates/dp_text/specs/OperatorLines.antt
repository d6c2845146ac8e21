-- detail
-- What the octets of an operator's line ask for (own).
use Rattle.std.specs.Prelude.{codes, ℕ, nat_lt, if◌then◌else◌, Bool, true, false, List, length, Option, None, ok_or, Result, Err}
use Rattle.std.specs.Str.{is_utf8}
use Rattle.dp_text.specs.declared.op_line.OpLine.{OpLine}
use Rattle.dp_text.specs.declared.operator_line.LineFault.{LineFault}
use Rattle.dp_text.specs.declared.operator_line.LineFault.TheVariants as faults
use Rattle.dp_text.specs.OpLines.{op_line_of}

-- the most octets of a line that may be a command
abbrev pub longest_line : ℕ
longest_line = 1024

abbrev pub line_fault_name : LineFault → List ℕ
line_fault_name faults.TooLong = codes "TooLong"
line_fault_name faults.NotACommand = codes "NotACommand"

-- a text asks for what it says; other octets ask for nothing
abbrev pub asked_in : Bool → List ℕ → Option OpLine
asked_in true line = op_line_of line
asked_in false line = None

-- a line that is too long is no command, whatever it holds
abbrev pub command_in : List ℕ → Result OpLine LineFault
command_in line = if nat_lt longest_line (length line) then Err faults.TooLong else ok_or (asked_in (is_utf8 line) line) faults.NotACommand
