use Rattle.rack_devices.proofs.Counting.{lengths_stay}
use Rattle.rack_devices.proofs.laws.inputs_keep_their_length.Goals as goal

pub returns : goal.returns
returns c = lengths_stay
