use Rattle.rack_devices.proofs.Counting.{number_counted}
use Rattle.rack_devices.proofs.laws.a_counter_counts_steps.Goals as goal

pub returns : goal.returns
returns c = number_counted
