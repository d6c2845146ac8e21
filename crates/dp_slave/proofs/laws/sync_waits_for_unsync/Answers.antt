use Rattle.dp_slave.proofs.Lives.{data_wait, put_out}
use Rattle.dp_slave.proofs.laws.sync_waits_for_unsync.Goals as goal

pub returns-clause-waits : goal.returns-clause-waits
returns-clause-waits c = data_wait

pub returns-clause-put_out : goal.returns-clause-put_out
returns-clause-put_out c = put_out
