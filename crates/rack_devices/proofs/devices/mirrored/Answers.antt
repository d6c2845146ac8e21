use Rattle.std.proofs.Common.{arith}
use Rattle.std.proofs.lemmas.Grind.{common_steps}
use Rattle.rack_devices.proofs.Counting.{cut_and_filled}
use Rattle.rack_devices.proofs.devices.mirrored.Goals as goal

pub returns : goal.returns
returns c = grind (arith, common_steps, cut_and_filled c.args.count c.args.outputs.now c.requires)
