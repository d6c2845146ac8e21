use Rattle.std.proofs.Common.{◌≡◌, ◌-◌, ◌≤◌, ◌++◌, length, take, None}
use Rattle.dp_text.specs.HexWords.{spelt_behind}
use Rattle.dp_text.proofs.HexPairs.{are_behind, are_hex}
use Rattle.dp_text.proofs.hex_words.HexWords.of_into.Given as goal

-- what is decoded so far, and then what the rest spells, is what the text spells; and the rest may follow a pair exactly if the text is hex words
abbrev pub invariant-loop-count : goal.invariant-loop-count
invariant-loop-count l = record {
  digits : are_behind l.left ≡ are_hex l.text;
  octets : spelt_behind None l.text ≡ take l.count l.octets ++ spelt_behind None l.left;
  room : l.count ≤ length l.octets;
}

abbrev pub decreases-loop-count : goal.decreases-loop-count
decreases-loop-count l = length l.octets - l.count
