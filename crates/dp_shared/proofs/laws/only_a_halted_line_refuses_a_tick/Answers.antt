use Rattle.dp_shared.proofs.Causes.{tick_halted}
use Rattle.dp_shared.proofs.laws.only_a_halted_line_refuses_a_tick.Goals as goal

pub returns : goal.returns
returns c = tick_halted
