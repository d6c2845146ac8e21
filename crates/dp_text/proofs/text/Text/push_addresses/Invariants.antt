use Rattle.std.proofs.Common.{◌≡◌, ◌+◌, ◌*◌, ◌≤◌, ◌++◌, length}
use Rattle.dp_text.specs.Texts.{addresses_text}
use Rattle.dp_text.proofs.text.Text.push_addresses.Given as goal

abbrev pub invariant-loop-left : goal.invariant-loop-left
invariant-loop-left l = record {
  text : l.self ++ addresses_text l.left ≡ l.fn.self ++ addresses_text l.addresses;
  room : length l.self + 4 * length l.left ≤ length l.fn.self + 4 * length l.addresses;
}

abbrev pub decreases-loop-left : goal.decreases-loop-left
decreases-loop-left l = length l.left
