-- detail
-- The text that names the ports of a rack that is served, and how it is read (own).
use Rattle.std.specs.Prelude.{codes, ℕ, ◌<◌, ◌&&◌, if◌then◌else◌, List, [], ◌∷◌, ◌++◌, Option, Some, None, option_and_then, option_map}
use Rattle.std.specs.Fmt.{decimal}
use Rattle.std.specs.List.{flat_map}
use Rattle.dp_text.specs.Numbers.{number_to}
use Rattle.dp_text.specs.Words.{lines_of, same_text, words_of}
use Rattle.serve_sockets.specs.declared.line_ports.LinePorts.{LinePorts}

-- ---- what is written

-- the number of a line, 0 to 255, and two ports, 0 to 65,535
abbrev pub AreNumbers : LinePorts → Type 0
AreNumbers ports = (ports.line < 256) × (ports.listen < 65536) × (ports.operator < 65536)

abbrev pub ports_row : LinePorts → List ℕ
ports_row ports = codes "line " ++ decimal ports.line ++ codes " listen " ++ decimal ports.listen ++ codes " operator " ++ decimal ports.operator ++ 10 ∷ []

-- a row for each line
abbrev pub ports_text : List LinePorts → List ℕ
ports_text lines = flat_map ports_row lines

-- ---- what is read

abbrev pub ports_with : Option ℕ → Option ℕ → Option ℕ → Option LinePorts
ports_with (Some line) (Some listen) (Some operator) = Some (record { line = line; listen = listen; operator = operator })
ports_with line listen operator = None

-- the ports in the words of a row: the number of a line, and two ports, 0 to 65,535
abbrev pub ports_in : List (List ℕ) → Option LinePorts
ports_in (first ∷ line ∷ second ∷ listen ∷ third ∷ operator ∷ []) =
    if same_text first (codes "line") && same_text second (codes "listen") && same_text third (codes "operator")
    then ports_with (number_to 255 line) (number_to 65535 listen) (number_to 65535 operator) else None
ports_in words = None

-- the ports in the rows of a text, which ends behind its last LF
abbrev pub read_rows : List (List ℕ) → Option (List LinePorts)
read_rows [] = None
read_rows ([] ∷ []) = Some []
read_rows (row ∷ rows) = option_and_then (λ ports. option_map (λ others. ports ∷ others) (read_rows rows)) (ports_in (words_of row))

-- the ports that a text names; None for any other text
abbrev pub read_ports : List ℕ → Option (List LinePorts)
read_ports text = read_rows (lines_of text)
