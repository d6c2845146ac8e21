use Rattle.std.proofs.Common.{arith}
use Rattle.std.proofs.lemmas.List.{length-take}
use Rattle.rack_devices.proofs.devices.next_inputs.Goals as goal

pub slice_bounds-next_of-end : goal.slice_bounds-next_of-end
slice_bounds-next_of-end c = omega (arith, length-take 244 c.args.inputs.now, c.if-inputs-gt-MOST_DATA.true)

pub next_of-requires : goal.next_of-requires
next_of-requires c = omega (arith, length-take 244 c.args.inputs.now)
