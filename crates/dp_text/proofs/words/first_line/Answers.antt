use Rattle.dp_text.proofs.Parts.{part_found, part_is_all}
use Rattle.dp_text.proofs.Places.{first_place, no_place, is_lf}
use Rattle.dp_text.proofs.words.first_line.Goals as goal

pub returns-in-Some : goal.returns-in-Some
returns-in-Some c = part_found is_lf c.args.text.now c.in-Some.index (first_place is_lf c.args.text.now c.in-Some.index c.in-Some.ensures)

pub returns-in-None : goal.returns-in-None
returns-in-None c = part_is_all is_lf c.args.text.now (no_place is_lf c.args.text.now c.in-None.ensures)
