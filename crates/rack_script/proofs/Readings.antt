-- The commands that words stand for.
use Rattle.std.proofs.Common.{◌≡◌, ℕ, List, [], ◌∷◌, length, Some, sym, ap, ◌∙◌, arith}
use Rattle.std.specs.Prelude.{nat_eq, option_map, option_and_then}
use Rattle.std.proofs.lemmas.List.Splits.{length-slice_split}
use Rattle.dp_text.specs.Numbers.{octet_number}
use Rattle.dp_text.specs.Words.{words_of}
use Rattle.dp_text.specs.HexWords.{octets_of_words}
use Rattle.rack_script.specs.Commands.{send, send_of, sending_of}

send_by_words : (master : List ℕ) (number : ℕ) (text : List ℕ) (words : List (List ℕ)) → words ≡ words_of text
    → Some number ≡ octet_number master → sending_of number text ≡ send_of (master ∷ words)
send_by_words master number text [] is one = absurd (omega (arith, ap length is, length-slice_split (λ octet. nat_eq octet 32) text))
send_by_words master number text (word ∷ words) is one =
    ap (λ w. option_map (send number) (octets_of_words w)) (sym is)
    ∙ ap (λ n. option_and_then (λ number. option_map (send number) (octets_of_words (word ∷ words))) n) one

-- the words after the first one are a master's address, and then words that are octets if a master sends them
pub sends_words : (words later : List (List ℕ)) (master text : List ℕ) (number : ℕ) → words ≡ master ∷ later → later ≡ words_of text
    → Some number ≡ octet_number master → sending_of number text ≡ send_of words
sends_words words later master text number first rest one = send_by_words master number text later rest one ∙ ap send_of (sym first)
