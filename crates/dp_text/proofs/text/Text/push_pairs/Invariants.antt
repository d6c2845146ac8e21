use Rattle.std.proofs.Common.{◌≡◌, ◌+◌, ◌*◌, ◌≤◌, ◌++◌, length}
use Rattle.dp_text.specs.Texts.{pairs_text}
use Rattle.dp_text.proofs.text.Text.push_pairs.Given as goal

abbrev pub invariant-loop-left : goal.invariant-loop-left
invariant-loop-left l = record {
  text : l.self ++ pairs_text l.left ≡ l.fn.self ++ pairs_text l.pairs;
  room : length l.self + 18 * length l.left ≤ length l.fn.self + 18 * length l.pairs;
}

abbrev pub decreases-loop-left : goal.decreases-loop-left
decreases-loop-left l = length l.left
