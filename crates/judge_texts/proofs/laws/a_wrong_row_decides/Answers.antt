use Rattle.judge_texts.proofs.WrongRow.{judged_to_its_first_wrong_row}
use Rattle.judge_texts.proofs.laws.a_wrong_row_decides.Goals as goal

pub returns : goal.returns
returns c = judged_to_its_first_wrong_row
