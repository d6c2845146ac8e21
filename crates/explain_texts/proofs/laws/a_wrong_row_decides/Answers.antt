use Rattle.explain_texts.proofs.WrongRow.{decides_at_wrong_row}
use Rattle.explain_texts.proofs.laws.a_wrong_row_decides.Goals as goal

pub returns : goal.returns
returns c = decides_at_wrong_row
