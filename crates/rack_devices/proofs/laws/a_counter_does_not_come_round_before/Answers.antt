use Rattle.rack_devices.proofs.Counting.{not_before}
use Rattle.rack_devices.proofs.laws.a_counter_does_not_come_round_before.Goals as goal

pub returns : goal.returns
returns c = not_before
