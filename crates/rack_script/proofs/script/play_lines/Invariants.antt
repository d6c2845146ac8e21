use Rattle.std.proofs.Common.{◌+◌}
use Rattle.dp_text.specs.Words.{lines_of}
use Rattle.rack_script.specs.ScriptText.{play}
use Rattle.rack_script.proofs.Played.{SoFar}
use Rattle.rack_script.proofs.script.play_lines.Given as goal

abbrev pub invariant-loop-index : goal.invariant-loop-index
invariant-loop-index g l =
    SoFar (play l.fn.script_rack 1 (lines_of l.script)) (g.W.Write.contents l.fn.writer) (g.W.Write.contents l.writer) l.script_rack (l.index + 1) l.lines
