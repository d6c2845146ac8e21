use Rattle.rack_file.specs.Rack.{rack_described}
use Rattle.embedded_rack.proofs.RackLines.{lines_open}
use Rattle.rack_script.proofs.explain.run_explain.Goals as goal

pub explain_on-requires-clause-opens : goal.explain_on-requires-clause-opens
explain_on-requires-clause-opens g c =
    let rack = c.in-Ok.rack in
    lines_open rack.lines.items (c.accepted_lines_can_be_opened.ensures c.args.rack.now (rack_described rack) c.in-Ok.ensures.ok)
