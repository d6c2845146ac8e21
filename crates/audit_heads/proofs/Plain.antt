-- Words without spaces and ends of rows, and rows of them.
use Rattle.std.proofs.Common.{◌≡◌, ℕ, zero, suc, ◌/◌, ◌%◌, ◌^◌, ◌<◌, ◌==◌, eqb, Bool, true, false, not, ◌&&◌, List, [], ◌∷◌, ◌++◌, refl, ap, ◌∙◌, arith}
use Rattle.std.specs.Prelude.{slice_index, All}
use Rattle.std.specs.Fmt.{decimal}
use Rattle.std.specs.Char.{is_ascii_digit}
use Rattle.std.specs.Str.{all_ascii_digits}
use Rattle.std.proofs.lemmas.Bool.{and_parts, and_from, eq-eqb, not-true}
use Rattle.std.proofs.lemmas.Bool.Decides.{nat_tests}
use Rattle.std.proofs.lemmas.Fmt.{digits_decimal}
use Rattle.std.proofs.lemmas.List.Elements.{All-nil, All-cons}
use Rattle.hex.specs.Hex.{encode_lower, encode_with, lower_digits}
use Rattle.dp_sap.specs.declared.state.State.{State}
use Rattle.dp_sap.specs.declared.state.State.TheVariants.{WaitPrm, WaitCfg, DataExch}
use Rattle.dp_sap.specs.Names.{state_name}
use Rattle.dp_text.specs.Words.{words_of, same_text}
use Rattle.dp_text.specs.Texts.{octets_text}
use Rattle.dp_text.proofs.ReadBack.{IsWord, own, last_word, next_word}
use Rattle.audit_heads.specs.FieldWords.{flags_word}
use Rattle.audit_heads.specs.Rows.{spaced}

-- ---- words

-- neither a space nor an LF
abbrev pub is_plain : ℕ → Bool
is_plain octet = not (octet == 32) && not (octet == 10)

abbrev pub all_plain : List ℕ → Bool
all_plain [] = true
all_plain (octet ∷ octets) = is_plain octet && all_plain octets

digit_plain : (octet : ℕ) → is_ascii_digit octet ≡ true → is_plain octet ≡ true
digit_plain octet is = grind (arith, nat_tests)

digits_plain : (digits : List ℕ) → all_ascii_digits digits ≡ true → all_plain digits ≡ true
digits_plain [] all = refl
digits_plain (digit ∷ digits) all =
    let (first, others) = and_parts (is_ascii_digit digit) (all_ascii_digits digits) all in
    and_from (is_plain digit) (all_plain digits) (digit_plain digit first) (digits_plain digits others)

pub decimal_plain : (number : ℕ) → number < 2 ^ 64 → all_plain (decimal number) ≡ true
decimal_plain number small = digits_plain (decimal number) (digits_decimal own number small)

in_table : (table : List ℕ) → all_plain table ≡ true → (i : ℕ) → is_plain (slice_index table i) ≡ true
in_table [] all i = refl
in_table (digit ∷ table) all zero = (and_parts (is_plain digit) (all_plain table) all).0
in_table (digit ∷ table) all (suc i) = in_table table (and_parts (is_plain digit) (all_plain table) all).1 i

hex_plain : (octets : List ℕ) → all_plain (encode_lower octets) ≡ true
unfolding encode_with
hex_plain [] = refl
hex_plain (octet ∷ octets) =
    let high = in_table lower_digits refl (octet / 16) in
    let low = in_table lower_digits refl (octet % 16) in
    and_from (is_plain (slice_index lower_digits (octet / 16))) (is_plain (slice_index lower_digits (octet % 16)) && all_plain (encode_lower octets)) high
    (and_from (is_plain (slice_index lower_digits (octet % 16))) (all_plain (encode_lower octets)) low (hex_plain octets))

pub octets_plain : (octets : List ℕ) → all_plain (octets_text octets) ≡ true
octets_plain [] = refl
octets_plain (octet ∷ octets) = hex_plain (octet ∷ octets)

pub flags_plain : (letters : List ℕ) (flags : List Bool) → all_plain letters ≡ true → all_plain (flags_word letters flags) ≡ true
flags_plain letters [] all = refl
flags_plain [] (flag ∷ flags) all = refl
flags_plain (letter ∷ letters) (true ∷ flags) all =
    let (first, others) = and_parts (is_plain letter) (all_plain letters) all in
    and_from (is_plain letter) (all_plain (flags_word letters flags)) first (flags_plain letters flags others)
flags_plain (letter ∷ letters) (false ∷ flags) all =
    flags_plain letters flags (and_parts (is_plain letter) (all_plain letters) all).1

pub state_plain : (state : State) → all_plain (state_name state) ≡ true
state_plain WaitPrm = refl
state_plain WaitCfg = refl
state_plain DataExch = refl

-- ---- rows

no_space : (word : List ℕ) → all_plain word ≡ true → All (λ octet. (octet == 32) ≡ false) word
no_space [] all = All-nil (λ octet. (octet == 32) ≡ false)
no_space (octet ∷ word) all =
    let (first, others) = and_parts (is_plain octet) (all_plain word) all in
    All-cons (λ octet. (octet == 32) ≡ false) octet word
    (not-true (octet == 32) (and_parts (not (octet == 32)) (not (octet == 10)) first).0) (no_space word others)

plain_is_word : (word : List ℕ) → all_plain word ≡ true → IsWord word
unfolding IsWord
plain_is_word word all = no_space word all

abbrev pub all_words : List (List ℕ) → Bool
all_words [] = true
all_words (word ∷ words) = all_plain word && all_words words

words_back : (word : List ℕ) (words : List (List ℕ)) → all_words (word ∷ words) ≡ true → words_of (spaced (word ∷ words)) ≡ word ∷ words
words_back word [] all = last_word word (plain_is_word word (and_parts (all_plain word) true all).0)
words_back word (next ∷ words) all =
    let (first, others) = and_parts (all_plain word) (all_words (next ∷ words)) all in
    next_word word (spaced (next ∷ words)) (plain_is_word word first) ∙ ap (λ (more : List (List ℕ)). word ∷ more) (words_back next words others)

abbrev pub has_no_lf : List ℕ → Bool
has_no_lf [] = true
has_no_lf (octet ∷ octets) = not (octet == 10) && has_no_lf octets

no_lf_joined : (a b : List ℕ) → all_plain a ≡ true → has_no_lf b ≡ true → has_no_lf (a ++ b) ≡ true
no_lf_joined [] b plain free = free
no_lf_joined (octet ∷ a) b plain free =
    let (first, others) = and_parts (is_plain octet) (all_plain a) plain in
    and_from (not (octet == 10)) (has_no_lf (a ++ b)) (and_parts (not (octet == 32)) (not (octet == 10)) first).1 (no_lf_joined a b others free)

no_lf_alone : (a : List ℕ) → all_plain a ≡ true → has_no_lf a ≡ true
no_lf_alone [] plain = refl
no_lf_alone (octet ∷ a) plain =
    let (first, others) = and_parts (is_plain octet) (all_plain a) plain in
    and_from (not (octet == 10)) (has_no_lf a) (and_parts (not (octet == 32)) (not (octet == 10)) first).1 (no_lf_alone a others)

spaced_no_lf : (words : List (List ℕ)) → all_words words ≡ true → has_no_lf (spaced words) ≡ true
spaced_no_lf [] all = refl
spaced_no_lf (word ∷ []) all = no_lf_alone word (and_parts (all_plain word) true all).0
spaced_no_lf (word ∷ next ∷ words) all =
    let (first, others) = and_parts (all_plain word) (all_words (next ∷ words)) all in
    no_lf_joined word (32 ∷ spaced (next ∷ words)) first (spaced_no_lf (next ∷ words) others)

pub same_itself : (text : List ℕ) → same_text text text ≡ true
same_itself [] = refl
same_itself (octet ∷ text) = and_from (eqb octet octet) (same_text text text) (eq-eqb octet octet refl) (same_itself text)

-- the words make a row that has these words
pub record IsRow (words : List (List ℕ)) : Type 0 where
  pub back : words_of (spaced words) ≡ words
  pub no_lf : has_no_lf (spaced words) ≡ true

pub is_row : (word : List ℕ) (words : List (List ℕ)) → all_words (word ∷ words) ≡ true → IsRow (word ∷ words)
is_row word words all = record { back = words_back word words all; no_lf = spaced_no_lf (word ∷ words) all }
