use Rattle.dp_prm.proofs.Cases.{user_parameters_fit}
use Rattle.dp_prm.proofs.laws.user_parameters_are_at_most_237.Goals as goal

pub returns : goal.returns
returns c = user_parameters_fit
