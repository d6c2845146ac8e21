use Rattle.std.proofs.Common.{◌≡◌, ◌+◌, ◌≤◌, length}
use Rattle.embedded_rack.specs.DeviceSteps.{fed_each}
use Rattle.embedded_rack.proofs.device_steps.feed_each.Given as goal

abbrev pub invariant-loop-left : goal.invariant-loop-left
invariant-loop-left l = record {
  fed : record { journal = (fed_each l.book l.left).journal; recorded = l.recorded + (fed_each l.book l.left).recorded } ≡ fed_each l.fn.book l.driven;
  room : l.recorded + length l.left ≤ length l.driven;
}

abbrev pub decreases-loop-left : goal.decreases-loop-left
decreases-loop-left l = length l.left
