use Rattle.rack_devices.proofs.Counting.{comes_round}
use Rattle.rack_devices.proofs.laws.a_counter_comes_round.Goals as goal

pub returns : goal.returns
returns c = comes_round
