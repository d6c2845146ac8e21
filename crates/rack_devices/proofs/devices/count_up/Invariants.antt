use Rattle.std.proofs.Common.{◌≡◌, ◌≤◌, length}
use Rattle.rack_devices.specs.Devices.{AreOctets, counted}
use Rattle.rack_devices.proofs.Counting.{to_count}
use Rattle.rack_devices.proofs.devices.count_up.Given as goal

abbrev pub invariant-loop-index : goal.invariant-loop-index
invariant-loop-index l = (to_count l.index l.octets ≡ counted l.fn.octets) × (l.index ≤ length l.octets) × AreOctets l.octets

abbrev pub decreases-loop-index : goal.decreases-loop-index
decreases-loop-index l = l.index
