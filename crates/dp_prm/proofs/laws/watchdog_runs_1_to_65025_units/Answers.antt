use Rattle.dp_prm.proofs.Cases.{watchdog_between}
use Rattle.dp_prm.proofs.laws.watchdog_runs_1_to_65025_units.Goals as goal

pub returns : goal.returns
returns c = watchdog_between
