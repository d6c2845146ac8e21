use Rattle.std.proofs.Common.{refl, ◌∙◌, ap, map}
use Rattle.dp_line.specs.World.{description_of}
use Rattle.embedded_rack.specs.EmbeddedLines.{line_at_start}
use Rattle.rack_script.proofs.ScriptRacks.{rack_opened}
use Rattle.rack_script.proofs.script_rack.ScriptRack.open.Goals as goal

pub returns : goal.returns
returns c =
    rack_opened c.args.rack.now.workers c.args.rack.now.lines.items c.in_ok-lines_of.field-0.items _ refl
    (c.in_ok-lines_of.ensures ∙ ap (map (λ line. line_at_start (description_of line.spec))) c.deref.ensures.value)
