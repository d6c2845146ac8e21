use Rattle.cable_faults.proofs.InOrder.{ascending}
use Rattle.cable_faults.proofs.laws.nothing_overtakes.Goals as goal

pub returns : goal.returns
returns c = ascending
