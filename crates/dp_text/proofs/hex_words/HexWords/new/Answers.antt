use Rattle.std.proofs.Common.{sym, ◌∙◌, ap, Some}
use Rattle.dp_text.specs.Words.{words_of}
use Rattle.dp_text.specs.HexWords.{octets_of_words}
use Rattle.dp_text.proofs.HexSpellings.{words_spell, some_value}
use Rattle.dp_text.proofs.hex_words.HexWords.new.Goals as goal

pub returns-then-are_hex_words : goal.returns-then-are_hex_words
returns-then-are_hex_words c =
    let (octets, is) = some_value (octets_of_words (words_of c.args.text.now)) (sym c.if-are_hex_words.ensures) in
    ap Some (words_spell c.args.text.now octets is) ∙ sym is
