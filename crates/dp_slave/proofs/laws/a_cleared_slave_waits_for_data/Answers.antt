use Rattle.dp_slave.proofs.Lives.{cleared_zero, clearing_begins, clearing_stays}
use Rattle.dp_slave.proofs.laws.a_cleared_slave_waits_for_data.Goals as goal

pub returns-clause-begins : goal.returns-clause-begins
returns-clause-begins c = clearing_begins

pub returns-clause-stays : goal.returns-clause-stays
returns-clause-stays c = clearing_stays

pub returns-clause-zero : goal.returns-clause-zero
returns-clause-zero c = cleared_zero
