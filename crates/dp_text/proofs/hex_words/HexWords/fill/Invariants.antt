use Rattle.std.proofs.Common.{◌≡◌, ◌≤◌, ◌++◌, length, take, None}
use Rattle.dp_text.specs.HexWords.{spelt_behind}
use Rattle.dp_text.proofs.hex_words.HexWords.fill.Given as goal

abbrev pub invariant-loop-count : goal.invariant-loop-count
invariant-loop-count l = record {
  octets : l.fn.self ≡ take l.count l.octets ++ spelt_behind None l.digits;
  room : l.count ≤ length l.octets;
}

abbrev pub decreases-loop-count : goal.decreases-loop-count
decreases-loop-count l = length l.digits
