use Rattle.std.proofs.Common.{◌≡◌, None, ap, ◌∙◌}
use Rattle.std.proofs.lemmas.List.Elements.{All-get_or}
use Rattle.dp_line.specs.World.{description_of, opening_fault}
use Rattle.rack_file.specs.declared.rack.RackLine.{RackLine}
use Rattle.embedded_rack.proofs.embedded_rack.lines_of.Goals as goal

pub open_line-requires : goal.open_line-requires
open_line-requires c =
    ap (λ (line : RackLine). opening_fault (description_of line.spec)) c.line-item.is
    ∙ All-get_or (λ line. opening_fault (description_of line.spec) ≡ None) c.args.lines.now c.loop-line.line-index c.line-item.result c.loop-line-test.true c.requires
