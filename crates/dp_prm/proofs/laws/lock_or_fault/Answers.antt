use Rattle.dp_prm.proofs.Cases.{locks}
use Rattle.dp_prm.proofs.laws.lock_or_fault.Goals as goal

pub returns-clause-lock : goal.returns-clause-lock
returns-clause-lock c = locks
