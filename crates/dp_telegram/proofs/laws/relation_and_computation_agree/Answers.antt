use Rattle.dp_telegram.proofs.Texts.{Spells-frame_of}
use Rattle.dp_telegram.proofs.laws.relation_and_computation_agree.Goals as goal

pub returns : goal.returns
returns c = Spells-frame_of
