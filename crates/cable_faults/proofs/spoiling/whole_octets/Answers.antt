use Rattle.dp_telegram.specs.Lent.{frame_lent}
use Rattle.cable_faults.specs.Whole.{HasNoFault}
use Rattle.std.proofs.Common.{sym, subst}
use Rattle.cable_faults.proofs.Whole.{of_frame}
use Rattle.cable_faults.proofs.spoiling.whole_octets.Goals as goal

pub returns-clause-whole : goal.returns-clause-whole
returns-clause-whole c = subst HasNoFault (sym c.octets.ensures.octets) (of_frame _ (frame_lent c.frame-content.result) c.frame-content.ensures)
