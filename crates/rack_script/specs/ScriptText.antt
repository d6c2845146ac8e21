-- detail
-- The text that a script writes: the answers of its lines, joined (own).
use Rattle.std.specs.Prelude.{ℕ, ◌+◌, ◌==◌, List, [], ◌∷◌, ◌++◌, map, slice_get, slice_set, Option, Some, None, option_map, option_and_then, position}
use Rattle.rack_file.specs.Rack.{RackDescription}
use Rattle.dp_text.specs.Words.{lines_of}
use Rattle.rack_script.specs.Commands.{Command, choose_line, send, write_journal, operate, command_of}
use Rattle.embedded_rack.specs.EmbeddedLines.{EmbeddedLine, Sent, line_at_start, sent, operated, journal_text}

-- a rack that a script runs on: its lines, and the index of the chosen one, which gets the commands
pub record ScriptRack : Type 0 where
  pub lines : List EmbeddedLine
  pub chosen : ℕ

-- at the start each line is at its start, and the first is chosen
abbrev pub rack_at_start : RackDescription → ScriptRack
rack_at_start rack = record { lines = map (λ line. line_at_start line.line) rack.lines; chosen = 0 }

-- the result of a command: the rack, and the text that is written
pub record Obeyed : Type 0 where
  pub script_rack : ScriptRack
  pub text : List ℕ

-- the result of a command to the chosen line
abbrev pub obeyed_by_line : ScriptRack → Sent → Obeyed
obeyed_by_line script_rack sending =
    record { script_rack = record script_rack { lines = slice_set script_rack.lines script_rack.chosen sending.line }; text = sending.text }

-- the text of a query to the chosen line; it leaves the rack unchanged
abbrev pub reported_by_line : ScriptRack → (EmbeddedLine → List ℕ) → Option Obeyed
reported_by_line script_rack text =
    option_map (λ line. record { script_rack = script_rack; text = text line }) (slice_get script_rack.lines script_rack.chosen)

-- None if the command can't be obeyed: it names a line that isn't in the rack, or a master that isn't the line's
abbrev pub obeyed : ScriptRack → Command → Option Obeyed
obeyed script_rack (choose_line number) =
    option_map (λ index. record { script_rack = record script_rack { chosen = index }; text = [] }) (position (λ line. line.journal.number == number) script_rack.lines)
obeyed script_rack (send master octets) =
    option_and_then (λ line. option_map (obeyed_by_line script_rack) (sent line master octets)) (slice_get script_rack.lines script_rack.chosen)
obeyed script_rack write_journal = reported_by_line script_rack journal_text
obeyed script_rack (operate op_line) =
    option_map (λ line. obeyed_by_line script_rack (operated line op_line)) (slice_get script_rack.lines script_rack.chosen)

-- None if a line of a script is no command, or can't be obeyed
abbrev pub line_obeyed : ScriptRack → List ℕ → Option Obeyed
line_obeyed script_rack line = option_and_then (obeyed script_rack) (command_of line)

-- the text that lines write, and the number of the first that is no command or can't be obeyed, at which the script stops
pub record Played : Type 0 where
  pub text : List ℕ
  pub fault : Option ℕ

abbrev pub after_line : List ℕ → Played → Played
after_line text played = record { text = text ++ played.text; fault = played.fault }

-- the script stops at a line that can't be obeyed; otherwise it continues with the rack that the line leaves
abbrev pub going_on : Option Obeyed → ℕ → (ScriptRack → Played) → Played
going_on None n others = record { text = []; fault = Some n }
going_on (Some first) n others = after_line first.text (others first.script_rack)

-- the lines of a script, the first of which has number n
abbrev pub play : ScriptRack → ℕ → List (List ℕ) → Played
play script_rack n [] = record { text = []; fault = None }
play script_rack n (line ∷ lines) = going_on (line_obeyed script_rack line) n (λ next. play next (n + 1) lines)

-- the text that a script writes on a rack, up to the first line that is no command or can't be obeyed
abbrev pub script_text : RackDescription → List ℕ → Played
script_text rack script = play (rack_at_start rack) 1 (lines_of script)
