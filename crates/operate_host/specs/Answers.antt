-- detail
-- Which lines of an operator are answered (own).
use Rattle.std.specs.Prelude.{ℕ, Bool, true, false, List, Result, Ok, Err}
use Rattle.dp_text.specs.declared.op_line.OpLine.{OpLine}
use Rattle.dp_text.specs.declared.op_line.OpLine.TheVariants.{Nothing}
use Rattle.dp_text.specs.OperatorLines.{command_in}

-- an empty line and a comment ask for nothing
abbrev pub asks_for : OpLine → Bool
asks_for Nothing = false
asks_for other = true

-- a line that is no command is answered too
abbrev pub asks : {E : Type 0} → Result OpLine E → Bool
asks (Ok op_line) = asks_for op_line
asks (Err fault) = true

-- whether a session of an operator answers this line with a line of text
abbrev pub is_answered : List ℕ → Bool
is_answered line = asks (command_in line)
