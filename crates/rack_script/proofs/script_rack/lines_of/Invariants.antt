use Rattle.std.proofs.Common.{◌≡◌, map, take}
use Rattle.dp_line.specs.World.{description_of}
use Rattle.embedded_rack.specs.EmbeddedLines.{line_at_start}
use Rattle.rack_script.proofs.script_rack.lines_of.Given as goal

abbrev pub invariant-loop-line : goal.invariant-loop-line
invariant-loop-line l = l.embedded_lines.items ≡ map (λ line. line_at_start (description_of line.spec)) (take l.line-index l.lines)
