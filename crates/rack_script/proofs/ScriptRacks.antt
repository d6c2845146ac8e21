-- A rack that a script runs on.
use Rattle.std.proofs.Common.{◌≡◌, ℕ, ◌<◌, ◌≤◌, List, map, length, ap, ◌∙◌, arith}
use Rattle.std.proofs.lemmas.List.{length-map}
use Rattle.dp_line.specs.World.{description_of}
use Rattle.rack_file.specs.declared.rack.RackLine.{RackLine}
use Rattle.rack_file.specs.Rack.{LineDescription, line_described}
use Rattle.embedded_rack.specs.EmbeddedLines.{EmbeddedLine, line_at_start}
use Rattle.embedded_rack.proofs.RackLines.{map-map}
use Rattle.rack_script.specs.ScriptText.{ScriptRack, rack_at_start}

pub rack_opened : (workers : ℕ) (lines : List RackLine) (embedded_lines : List EmbeddedLine) (script_rack : ScriptRack)
    → script_rack ≡ record { lines = embedded_lines; chosen = 0 } → embedded_lines ≡ map (λ line. line_at_start (description_of line.spec)) lines
    → script_rack ≡ rack_at_start (record { workers = workers; lines = map line_described lines })
rack_opened workers lines embedded_lines script_rack made opened =
    made ∙ ap (λ ss. record { lines = ss; chosen = 0 }) (opened ∙ map-map (λ (line : LineDescription). line_at_start line.line) line_described lines)

-- there are as many lines as described lines
pub some_lines : (lines : List RackLine) → 1 ≤ length (map line_described lines) → 0 < length lines
some_lines lines some = omega (arith, some, length-map lines line_described)
