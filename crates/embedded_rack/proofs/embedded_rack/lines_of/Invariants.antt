use Rattle.std.proofs.Common.{◌≡◌, map, take}
use Rattle.dp_line.specs.World.{description_of}
use Rattle.embedded_rack.specs.RackCalls.{line_opened}
use Rattle.embedded_rack.proofs.embedded_rack.lines_of.Given as goal

abbrev pub invariant-loop-line : goal.invariant-loop-line
invariant-loop-line l = l.opened.items ≡ map (λ line. line_opened l.endless (description_of line.spec)) (take l.line-index l.lines)
