use Rattle.rack_file.specs.Rack.{rack_described}
use Rattle.rack_file.specs.RackFile.{rack_in}
use Rattle.judge_texts.proofs.EndedText.{no_memory}
use Rattle.judge_texts.proofs.FirstRow.{lines_open}
use Rattle.judge_texts.proofs.judging.run_judge.Goals as goal

pub judge_on-requires-clause-opens : goal.judge_on-requires-clause-opens
judge_on-requires-clause-opens g c =
    let rack = c.in-Ok.rack in
    lines_open rack.lines.items (c.accepted_lines_can_be_opened.ensures c.args.rack.now (rack_described rack) c.in-Ok.ensures.ok)

pub returns-in-Err-OutOfMemory-clause-judged : goal.returns-in-Err-OutOfMemory-clause-judged
returns-in-Err-OutOfMemory-clause-judged g c = no_memory (rack_in c.args.rack.now) c.args.rows.now.text c.args.choice.now (g.W.Write.contents c.args.writer.now)
