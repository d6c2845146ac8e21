use Rattle.dp_prm.proofs.Cases.{sets_min_tsdr}
use Rattle.dp_prm.proofs.laws.neither_sets_min_tsdr.Goals as goal

pub returns : goal.returns
returns c = sets_min_tsdr
