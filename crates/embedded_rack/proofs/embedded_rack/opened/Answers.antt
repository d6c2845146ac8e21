use Rattle.rack_file.specs.Rack.{rack_described}
use Rattle.embedded_rack.proofs.RackLines.{lines_open}
use Rattle.embedded_rack.proofs.embedded_rack.opened.Goals as goal

pub at_start-requires : goal.at_start-requires
at_start-requires c =
    let rack = c.in-Ok.rack in
    lines_open rack.lines.items (c.accepted_lines_can_be_opened.ensures c.args.text.now (rack_described rack) c.in-Ok.ensures.ok)
