use Rattle.rack_file.specs.Rack.{rack_described}
use Rattle.embedded_rack.proofs.RackLines.{lines_open}
use Rattle.rack_script.proofs.check.run_check.Goals as goal

pub verdict_on-requires-clause-opens : goal.verdict_on-requires-clause-opens
verdict_on-requires-clause-opens g c =
    let rack = c.in-Ok.rack in
    lines_open rack.lines.items (c.accepted_lines_can_be_opened.ensures c.args.rack.now (rack_described rack) c.in-Ok.ensures.ok)

pub returns-in-Ok-clause-reported : goal.returns-in-Ok-clause-reported
returns-in-Ok-clause-reported g c = rw c.in-Ok.ensures.ok (c.report_rows.ensures.reported _ _ c.verdict_on.ensures.verdict)
