use Rattle.cable_faults.proofs.FaultlessCables.{left_out}
use Rattle.cable_faults.proofs.laws.a_lost_telegram_is_left_out.Goals as goal

pub returns : goal.returns
returns c = left_out
