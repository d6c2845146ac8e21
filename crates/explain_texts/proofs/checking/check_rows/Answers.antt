use Rattle.std.proofs.Common.{ap, ◌∙◌}
use Rattle.dp_line.specs.World.{description_of}
use Rattle.explain_texts.specs.Known.{first_world}
use Rattle.explain_texts.proofs.ReadRows.{places_are}
use Rattle.explain_texts.proofs.checking.check_rows.Goals as goal

pub check_on-requires-clause-opened : goal.check_on-requires-clause-opened
check_on-requires-clause-opened g c =
    let line = description_of c.args.line.now in
    ap (λ s. s.world) (c.in-Ok-open_line.ensures.opened c.requires.opens)
    ∙ ap (first_world line) (places_are line c.in-Ok.header.now c.row.result.now c.args.rows.now.text.row c.in-Ok.ensures.cases.0 c.row.ensures.row c.row.ensures.no_lf)
