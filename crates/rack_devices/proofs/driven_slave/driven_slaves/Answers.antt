use Rattle.std.proofs.Common.{◌≡◌, ap, ◌∙◌, arith}
use Rattle.std.specs.List.{filter_map, range_with_len}
use Rattle.std.proofs.lemmas.Grind.{common_steps}
use Rattle.rack_devices.specs.DrivenSlaves.{driven_at, driven_slaves}
use Rattle.rack_devices.proofs.Ascending.{driven_more}
use Rattle.rack_devices.proofs.driven_slave.driven_slaves.Goals.{in-Some, in_default}
use Rattle.rack_devices.proofs.driven_slave.driven_slaves.Goals as goal

pub loop-address-preserved : goal.loop-address-preserved
loop-address-preserved c = elim c.match-driven_at.branch [
  | in-Some w ↦ grind (arith, common_steps, driven_more c.args.line.now.slaves.items c.loop-address.address)
  | in_default w ↦ grind (arith, common_steps, driven_more c.args.line.now.slaves.items c.loop-address.address)
]

pub returns : goal.returns
unfolding driven_slaves
returns c =
    let all : c.loop-address.address ≡ 127 = omega arith in
    c.loop-address.invariant.0 ∙ ap (λ n. filter_map (driven_at c.args.line.now.slaves.items) (range_with_len 0 n)) all
