-- detail
-- The commands of a script (own).
use Rattle.std.specs.Prelude.{codes, ℕ, if◌then◌else◌, List, [], ◌∷◌, Option, Some, None, option_map, option_and_then}
use Rattle.dp_text.specs.Numbers.{octet_number}
use Rattle.dp_text.specs.Words.{words_of, same_text}
use Rattle.dp_text.specs.HexWords.{octets_of_words}
use Rattle.dp_text.specs.declared.op_line.OpLine.{OpLine}
use Rattle.dp_text.specs.OpLines.{only_octet, op_line_of}

-- what a line of a script asks for
pub data Command : Type 0 where
  choose_line : ℕ → Command
  send : ℕ → List ℕ → Command
  write_journal : Command
  operate : OpLine → Command

-- this master sends the octets of words, if they are hex digits
abbrev pub sending_of : ℕ → List ℕ → Option Command
sending_of master digits = option_map (send master) (octets_of_words (words_of digits))

-- `m M HEX..`: master M sends these octets
abbrev pub send_of : List (List ℕ) → Option Command
send_of (master ∷ word ∷ words) =
    option_and_then (λ number. option_map (send number) (octets_of_words (word ∷ words))) (octet_number master)
send_of other = None

-- `line N`: chooses the line of number N
abbrev pub choice_of : List (List ℕ) → Option Command
choice_of words = option_map choose_line (only_octet words)

-- `journal`: writes the audit text of the line
abbrev pub journal_of : List (List ℕ) → Option Command
journal_of [] = Some write_journal
journal_of other = None

-- any other line is read as one of the operator, also an empty one and a comment
abbrev pub operation_of : List ℕ → Option Command
operation_of line = option_map operate (op_line_of line)

-- the command of a line with these words
abbrev pub command_by_words : List ℕ → List (List ℕ) → Option Command
command_by_words line [] = None
command_by_words line (word ∷ words) =
    if same_text word (codes "m") then send_of words
    else if same_text word (codes "line") then choice_of words
    else if same_text word (codes "journal") then journal_of words
    else operation_of line

-- None if the line is no command
abbrev pub command_of : List ℕ → Option Command
command_of line = command_by_words line (words_of line)
