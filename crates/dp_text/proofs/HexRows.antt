-- Texts of words of hex digits, decoded in the pass that checks them.
use Rattle.std.proofs.Common.{◌≡◌, ℕ, ◌+◌, ◌-◌, ◌<◌, ◌≤◌, ◌==◌, true, false, ◌&&◌, Bool, List, [], ◌∷◌, ◌++◌, length, take, drop, set, Option, Some, None, is_some, inl, inr, refl, sym, ap, ◌∙◌, arith, append_assoc}
use Rattle.std.specs.Prelude.{slice_index_or}
use Rattle.std.proofs.lemmas.List.{take_rest, take_more_set}
use Rattle.std.proofs.lemmas.Bool.{cases_Bool, cond-false, eqb-true}
use Rattle.hex.specs.Hex.{is_hex_digit}
use Rattle.dp_text.specs.HexWords.{octets_of_words, pair_octet, spelt_behind}
use Rattle.dp_text.proofs.HexPairs.{are_hex, words_in}
use Rattle.dp_text.proofs.HexSpellings.{some_value, words_spell}

no_space : (digit : ℕ) → is_hex_digit digit ≡ true → (digit == 32) ≡ false
no_space digit hex = elim (cases_Bool (digit == 32)) [
  | inl space ↦ absurd (let e : is_hex_digit digit ≡ is_hex_digit 32 = ap is_hex_digit (eqb-true digit 32 space) in cc)
  | inr other ↦ other
]

first_true : (a b : Bool) → (a && b) ≡ true → a ≡ true
first_true true b e = refl
first_true false b e = absurd cc

-- what a pair in front and the digits after it spell
pub pair_spelt : (high low : ℕ) (rest : List ℕ) → (is_hex_digit high && is_hex_digit low) ≡ true
    → spelt_behind None (high ∷ low ∷ rest) ≡ pair_octet high low ∷ spelt_behind None rest
pair_spelt high low rest pair =
    cond-false (high == 32) (spelt_behind None (low ∷ rest)) (spelt_behind (Some high) (low ∷ rest)) (no_space high (first_true (is_hex_digit high) (is_hex_digit low) pair))

-- a space in front spells nothing
pub space_spells : (text : List ℕ) → 1 ≤ length text → slice_index_or text 0 0 ≡ 32 → spelt_behind None text ≡ spelt_behind None (take (length text - 1) (drop 1 text))
space_spells [] some space = absurd (omega (arith, some))
space_spells (digit ∷ rest) some space =
    ap (λ (d : ℕ). spelt_behind None (d ∷ rest)) space ∙ ap (spelt_behind None) (sym (take_rest (digit ∷ rest) 1))

-- one more octet is decoded
pub one_more : (all octets before behind : List ℕ) (count octet : ℕ) → count < length octets → all ≡ take count octets ++ before → before ≡ octet ∷ behind
    → all ≡ take (count + 1) (set octets count octet) ++ behind
one_more all octets before behind count octet room so_far next =
    so_far
    ∙ ap (λ (b : List ℕ). take count octets ++ b) next
    ∙ sym (append_assoc (take count octets) (octet ∷ []) behind)
    ∙ ap (λ (front : List ℕ). front ++ behind) (sym (take_more_set octets count octet room))

-- what is decoded, and what the digits after it spell, are the octets of the words
pub decoded : (text octets : List ℕ) → are_hex text ≡ true → spelt_behind None text ≡ octets → Some octets ≡ octets_of_words (words_in text)
decoded text octets hex spelt =
    let (found, is) = some_value (octets_of_words (words_in text)) hex in
    ap Some (sym spelt ∙ words_spell text found is) ∙ sym is

none_by : (o : Option (List ℕ)) → is_some o ≡ false → None ≡ o
none_by None e = refl
none_by (Some octets) e = absurd cc

pub undecoded : (text : List ℕ) → are_hex text ≡ false → None ≡ octets_of_words (words_in text)
undecoded text other = none_by (octets_of_words (words_in text)) other
