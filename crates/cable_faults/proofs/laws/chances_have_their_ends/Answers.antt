use Rattle.cable_faults.proofs.FaultlessCables.{always, never}
use Rattle.cable_faults.proofs.laws.chances_have_their_ends.Goals as goal

pub returns-clause-never : goal.returns-clause-never
returns-clause-never c = never

pub returns-clause-always : goal.returns-clause-always
returns-clause-always c = always
