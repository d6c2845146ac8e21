use Rattle.dp_line.proofs.BusTime.{all_run, all_reported}
use Rattle.dp_line.proofs.bus_laws.a_watchdog_runs_as_the_parameters_say.Goals as goal

pub returns-clause-runs : goal.returns-clause-runs
returns-clause-runs c = all_run c.a_slave_stays_sound.ensures

pub returns-clause-reported : goal.returns-clause-reported
returns-clause-reported c = all_reported c.a_slave_stays_sound.ensures
