-- detail
-- What a command to a line leaves on its writer, and how it ends (own).
use Rattle.std.specs.Prelude.{◌≡◌, ℕ, List, Option, Some, None, Result, Ok, Err}
use Rattle.std.specs.Io.KnownBytes.{Appends, Keeps}
use Rattle.dp_text.specs.Writes.{WritesPrefix}
use Rattle.embedded_rack.specs.declared.obey_fault.ObeyFault.{ObeyFault}
use Rattle.embedded_rack.specs.declared.obey_fault.ObeyFault.TheVariants as stops
use Rattle.embedded_rack.specs.EmbeddedLines.{EmbeddedLine, Sent}

-- a command to a line: at the end the line is as the command leaves it, and the writer has its whole text, or a prefix if a write failed;
-- if it is no command, nothing is written
abbrev pub Sends : Option Sent → EmbeddedLine → Option (List ℕ) → Option (List ℕ) → Result (Unit {0}) ObeyFault → Type 0
Sends (Some sending) line old new (Ok done) = (line ≡ sending.line) × Appends old new sending.text
Sends (Some sending) line old new (Err stops.WriteFault) = WritesPrefix old new sending.text
Sends (Some sending) line old new (Err stops.NoCommand) = ⊥
Sends None line old new (Err stops.NoCommand) = Keeps old new
Sends None line old new other = ⊥
