use Rattle.dp_prm.proofs.Cases.{some_case}
use Rattle.dp_prm.proofs.laws.some_case_always_applies.Goals as goal

pub returns : goal.returns
returns c = some_case
