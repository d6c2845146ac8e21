use Rattle.cable_faults.proofs.InOrder.{at_once, waits}
use Rattle.cable_faults.proofs.laws.only_what_waits_is_late.Goals as goal

pub returns-clause-waits : goal.returns-clause-waits
returns-clause-waits c = waits

pub returns-clause-goes : goal.returns-clause-goes
returns-clause-goes c = at_once
