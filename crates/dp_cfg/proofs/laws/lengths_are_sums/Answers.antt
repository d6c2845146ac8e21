use Rattle.dp_cfg.proofs.Readings.{input_octets_are, output_octets_are}
use Rattle.dp_cfg.proofs.laws.lengths_are_sums.Goals as goal

pub returns : goal.returns
returns c = record { inputs = input_octets_are; outputs = output_octets_are }
