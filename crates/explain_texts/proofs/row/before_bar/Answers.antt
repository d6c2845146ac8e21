use Rattle.std.proofs.Common.{sym}
use Rattle.explain_texts.proofs.Bars.{front_found, no_front}
use Rattle.explain_texts.proofs.row.before_bar.Goals as goal

pub returns-in-None : goal.returns-in-None
returns-in-None c = sym (no_front c.args.text.now c.in-None.ensures)

pub returns-in-Some : goal.returns-in-Some
returns-in-Some c = sym (front_found c.args.text.now c.in-Some.index c.in-Some.ensures)
