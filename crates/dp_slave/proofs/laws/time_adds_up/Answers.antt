use Rattle.dp_slave.proofs.Lives.{times_add}
use Rattle.dp_slave.proofs.laws.time_adds_up.Goals as goal

pub returns : goal.returns
returns c = times_add
