use Rattle.std.proofs.Common.{◌≡◌, ◌++◌, length, map}
use Rattle.capture_texts.specs.Blocks.{capture_octets}
use Rattle.rack_file.specs.Rack.{line_described}
use Rattle.capture_texts.specs.Captured.{line_interface}
use Rattle.capture_texts.proofs.opening.push_lines.Given as goal

abbrev pub invariant-loop-left : goal.invariant-loop-left
invariant-loop-left l =
    l.capture ++ capture_octets (map line_interface (map line_described l.left))
    ≡ l.fn.capture ++ capture_octets (map line_interface (map line_described l.lines))

abbrev pub decreases-loop-left : goal.decreases-loop-left
decreases-loop-left l = length l.left
