use Rattle.std.proofs.Common.{◌+◌, subst}
use Rattle.dp_text.specs.Words.{lines_of}
use Rattle.rack_script.specs.ScriptText.{play}
use Rattle.rack_script.proofs.Played.{SoFar, line_done, line_is_none, line_written_in_part}
use Rattle.rack_script.proofs.script.play_lines.Goals as goal

pub returns-in-Err-NoCommand : goal.returns-in-Err-NoCommand
returns-in-Err-NoCommand g c =
    let here = subst (SoFar (play c.args.script_rack.now 1 (lines_of c.args.script.now)) (g.W.Write.contents c.args.writer.now) (g.W.Write.contents c.loop-index.writer) c.loop-index.script_rack (c.loop-index.index + 1)) c.in-Some.ensures c.loop-index.invariant in
    line_is_none _ _ (g.W.Write.contents c.loop-index.writer) _ c.loop-index.script_rack c.obey_line.new.script_rack (c.loop-index.index + 1) c.in-Some.line.now c.next.new.self here (rw c.in-Err-NoCommand.field-0-is at c.in-Err-NoCommand.ensures)

pub returns-in-Err-WriteFault : goal.returns-in-Err-WriteFault
returns-in-Err-WriteFault g c =
    let here = subst (SoFar (play c.args.script_rack.now 1 (lines_of c.args.script.now)) (g.W.Write.contents c.args.writer.now) (g.W.Write.contents c.loop-index.writer) c.loop-index.script_rack (c.loop-index.index + 1)) c.in-Some.ensures c.loop-index.invariant in
    line_written_in_part _ _ (g.W.Write.contents c.loop-index.writer) _ c.loop-index.script_rack c.obey_line.new.script_rack (c.loop-index.index + 1) c.in-Some.line.now c.next.new.self here (rw c.in-Err-WriteFault.field-0-is at c.in-Err-WriteFault.ensures)

pub loop-index-preserved : goal.loop-index-preserved
loop-index-preserved g c =
    let here = subst (SoFar (play c.args.script_rack.now 1 (lines_of c.args.script.now)) (g.W.Write.contents c.args.writer.now) (g.W.Write.contents c.loop-index.writer) c.loop-index.script_rack (c.loop-index.index + 1)) c.in-Some.ensures c.loop-index.invariant in
    line_done _ _ (g.W.Write.contents c.loop-index.writer) _ c.loop-index.script_rack c.obey_line.new.script_rack (c.loop-index.index + 1) c.in-Some.line.now c.next.new.self here c.in-Ok.ensures
