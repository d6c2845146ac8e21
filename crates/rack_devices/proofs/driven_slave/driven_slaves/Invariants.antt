use Rattle.std.proofs.Common.{◌≡◌, ◌≤◌, length}
use Rattle.std.specs.List.{filter_map, range_with_len}
use Rattle.rack_devices.specs.DrivenSlaves.{driven_at}
use Rattle.rack_devices.proofs.driven_slave.driven_slaves.Given as goal

abbrev pub invariant-loop-address : goal.invariant-loop-address
invariant-loop-address l =
    (l.driven.items ≡ filter_map (driven_at l.line.slaves.items) (range_with_len 0 l.address))
    × (length l.driven.items ≤ l.address)
