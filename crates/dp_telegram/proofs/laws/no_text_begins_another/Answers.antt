use Rattle.dp_telegram.proofs.Texts.{no_text_begins}
use Rattle.dp_telegram.proofs.laws.no_text_begins_another.Goals as goal

pub returns : goal.returns
returns c = no_text_begins
