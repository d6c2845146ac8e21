use Rattle.dp_slave.proofs.Lives.{released_again, halt_releases}
use Rattle.dp_slave.proofs.laws.released_is_a_fixed_point.Goals as goal

pub returns-clause-again : goal.returns-clause-again
returns-clause-again c = released_again

pub returns-clause-halt : goal.returns-clause-halt
returns-clause-halt c = halt_releases
