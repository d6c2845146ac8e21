use Rattle.rack_file.specs.RackFile.{rack_in}
use Rattle.rack_file.specs.Rack.{rack_described}
use Rattle.embedded_rack.proofs.RackLines.{lines_open}
use Rattle.rack_script.proofs.ScriptRacks.{some_lines}
use Rattle.rack_script.proofs.Played.{memory_reported}
use Rattle.rack_script.proofs.run.run_text.Goals as goal

pub run_script-requires : goal.run_script-requires
run_script-requires g c =
    let text = c.args.rack.now in
    let rack = c.in-Ok.rack in record {
      some = some_lines rack.lines.items (c.accepted_racks_have_1_to_8_lines.ensures.least text (rack_described rack) c.in-Ok.ensures.ok);
      fit = lines_open rack.lines.items (c.accepted_lines_can_be_opened.ensures text (rack_described rack) c.in-Ok.ensures.ok);
    }

pub returns-in-Err-OutOfMemory : goal.returns-in-Err-OutOfMemory
returns-in-Err-OutOfMemory g c = memory_reported (rack_in c.args.rack.now) c.args.script.now (g.W.Write.contents c.args.writer.now)
