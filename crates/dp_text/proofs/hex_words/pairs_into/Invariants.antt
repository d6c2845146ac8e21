use Rattle.std.proofs.Common.{◌≡◌, ◌*◌, ◌-◌, ◌<◌, ◌≤◌, ◌++◌, length, take, drop, None}
use Rattle.dp_text.specs.HexWords.{spelt_behind}
use Rattle.dp_text.proofs.HexPairs.{are_behind, are_hex}
use Rattle.dp_text.proofs.hex_words.pairs_into.Given as goal

-- what is decoded so far, and then what the rest spells, is what the text spells; and the rest may follow a pair exactly if the text is hex words
abbrev pub invariant-loop-count : goal.invariant-loop-count
invariant-loop-count l = record {
  octets : spelt_behind None l.text ≡ take l.count l.octets ++ spelt_behind None (drop (2 * l.count) l.text);
  words : 0 < l.count → are_behind (drop (2 * l.count) l.text) ≡ are_hex l.text;
  room : l.count ≤ length l.octets;
  within : 2 * l.count ≤ length l.text;
}

abbrev pub decreases-loop-count : goal.decreases-loop-count
decreases-loop-count l = length l.octets - l.count
