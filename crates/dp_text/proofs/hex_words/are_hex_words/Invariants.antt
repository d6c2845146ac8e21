use Rattle.std.proofs.Common.{◌≡◌, length}
use Rattle.dp_text.proofs.HexPairs.{are_hex}
use Rattle.dp_text.proofs.hex_words.are_hex_words.Given as goal

abbrev pub invariant-loop-left : goal.invariant-loop-left
invariant-loop-left l = are_hex l.left ≡ are_hex l.text

abbrev pub decreases-loop-left : goal.decreases-loop-left
decreases-loop-left l = length l.left
