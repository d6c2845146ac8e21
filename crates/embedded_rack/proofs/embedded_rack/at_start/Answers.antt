use Rattle.std.proofs.Common.{ap, map, ◌∙◌}
use Rattle.dp_line.specs.World.{description_of}
use Rattle.embedded_rack.specs.RackCalls.{line_opened}
use Rattle.embedded_rack.proofs.RackLines.{rack_started}
use Rattle.embedded_rack.proofs.embedded_rack.at_start.Goals as goal

pub returns-in-Ok-clause-opened : goal.returns-in-Ok-clause-opened
returns-in-Ok-clause-opened c =
    c.with_lines.ensures
    ∙ rack_started c.args.endless c.args.rack.workers c.args.rack.lines.items c.in-Ok.lines.items
    (c.in-Ok.ensures ∙ ap (map (λ line. line_opened c.args.endless (description_of line.spec))) c.deref.ensures.value)
