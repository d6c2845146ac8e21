use Rattle.dp_slave.proofs.Lives.{only_read, reported_stranger}
use Rattle.dp_slave.proofs.laws.a_stranger_changes_nothing.Goals as goal

pub returns-clause-diagnosis : goal.returns-clause-diagnosis
returns-clause-diagnosis c = reported_stranger

pub returns-clause-read : goal.returns-clause-read
returns-clause-read c = only_read
