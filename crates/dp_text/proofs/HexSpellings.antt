-- Words of hex digits, and the octets that they spell.
use Rattle.std.proofs.Common.{◌≡◌, ◌≢◌, ℕ, ◌+◌, ◌*◌, ◌%◌, ◌/◌, ◌<◌, ◌≤◌, ◌==◌, leb, true, ◌&&◌, List, [], ◌∷◌, ◌++◌, length, take, drop, Option, Some, None, Result, Ok, Err, is_some, inl, inr, refl, sym, ap, ◌∙◌, arith}
use Rattle.std.specs.Prelude.{option_map, option_and_then}
use Rattle.std.specs.List.{slice_split, onto_first, list_all, count_by}
use Rattle.std.specs.Result.{result_ok}
use Rattle.std.proofs.lemmas.Bool.{cases_Bool, cases_eq, cond-true, cond-false, ne_eqb, eq-eqb, lt-leb, le-leb}
use Rattle.std.proofs.lemmas.Bool.Decides.{nat_tests}
use Rattle.std.proofs.lemmas.Grind.{common_steps}
use Rattle.std.proofs.lemmas.List.Sums.{AllPass-from_list_all, list_all-from_AllPass}
use Rattle.std.proofs.lemmas.List.Splits.{slice_split-cons_yes, slice_split-cons_no, length-slice_split}
use Rattle.hex.specs.Hex.{decode_of, decode_sized, decode_pairs, pair_value, value_at, digit_or_error, hex_digit_value, is_hex_digit, ◌>>=◌}
use Rattle.hex.specs.declared.error.FromHexError.{FromHexError}
use Rattle.hex.proofs.HexLemmas.{decode_of-ok, decode_of-digits, decode_of-even, decode_of-odd, decode_sized-odd, decode_sized-twice}
use Rattle.dp_text.specs.Events.{octets_within, octets_up_to}
use Rattle.dp_text.specs.HexWords.{octets_of_word, octets_of_words, digit_value, pair_octet, spelt_behind}

abbrev pub Read : Type 0
Read = Result (List ℕ) FromHexError

-- ---- which words are hex digits

by_digits : (word : List ℕ) (read : Read) → decode_of word ≡ read → length word % 2 ≡ 0 → list_all is_hex_digit word ≡ is_some (result_ok read)
by_digits word (Ok octets) e even = list_all-from_AllPass is_hex_digit word (decode_of-ok word octets e).1
by_digits word (Err fault) e even = elim (cases_Bool (list_all is_hex_digit word)) [
  | inl all ↦ absurd (let (octets, read) = decode_of-digits word even (AllPass-from_list_all is_hex_digit word all) in cc)
  | inr some ↦ some
]

pub hex_word : (word : List ℕ) → length word ≢ 0 → length word % 2 ≡ 0 → list_all is_hex_digit word ≡ is_some (octets_of_word word)
hex_word word filled even =
    by_digits word (decode_of word) refl even
    ∙ ap (λ (o : Option (List ℕ)). is_some o) (sym (cond-false (length word == 0) None (result_ok (decode_of word)) (ne_eqb (length word) 0 filled)))

joined_by : Option (List ℕ) → Option (List ℕ) → Option (List ℕ)
joined_by first others = option_and_then (λ octets. option_map (λ more. octets ++ more) others) first

is_some-joined : (first others : Option (List ℕ)) → is_some (joined_by first others) ≡ (is_some first && is_some others)
unfolding joined_by
is_some-joined None others = refl
is_some-joined (Some octets) None = refl
is_some-joined (Some octets) (Some more) = refl

-- a word, and the words after it
pub some_words : (word : List ℕ) (words : List (List ℕ)) → is_some (octets_of_words (word ∷ words)) ≡ (is_some (octets_of_word word) && is_some (octets_of_words words))
unfolding joined_by
some_words word words = is_some-joined (octets_of_word word) (octets_of_words words)

-- ---- the octets that they spell

joined_parts : (first others : Option (List ℕ)) (all : List ℕ) → joined_by first others ≡ Some all
    → (octets : List ℕ) × (more : List ℕ) × (first ≡ Some octets) × (others ≡ Some more) × (octets ++ more ≡ all)
unfolding joined_by
joined_parts None others all e = absurd cc
joined_parts (Some octets) None all e = absurd cc
joined_parts (Some octets) (Some more) all e = (octets, more, refl, refl, cc)

words_parts : (word : List ℕ) (words : List (List ℕ)) (all : List ℕ) → octets_of_words (word ∷ words) ≡ Some all
    → (octets : List ℕ) × (more : List ℕ) × (octets_of_word word ≡ Some octets) × (octets_of_words words ≡ Some more) × (octets ++ more ≡ all)
unfolding joined_by
words_parts word words all e = joined_parts (octets_of_word word) (octets_of_words words) all e

pub ok_part : (read : Read) (octets : List ℕ) → result_ok read ≡ Some octets → read ≡ Ok octets
ok_part (Ok x) octets e = cc
ok_part (Err fault) octets e = absurd cc

pub word_read : (word octets : List ℕ) → octets_of_word word ≡ Some octets → decode_pairs 0 word ≡ Ok octets
word_read word octets e = elim (cases_eq (length word) 0) [
  | inl none ↦ absurd (let o : octets_of_word word ≡ None = cond-true (length word == 0) None (result_ok (decode_of word)) (eq-eqb (length word) 0 none) in cc)
  | inr some ↦
      let read = ok_part (decode_of word) octets (sym (cond-false (length word == 0) None (result_ok (decode_of word)) (ne_eqb (length word) 0 some)) ∙ e) in
      sym (decode_of-even word (decode_of-ok word octets read).0) ∙ read
]

pub value_of_digit : (digit value : ℕ) → hex_digit_value digit ≡ Some value → (digit_value digit ≡ value) × (value < 16)
value_of_digit digit value e = (grind (arith, nat_tests), grind (arith, nat_tests))

pub digit_read : (digit i value : ℕ) (read : Option ℕ) → digit_or_error digit i read ≡ Ok value → read ≡ Some value
digit_read digit i value (Some v) ok = cc
digit_read digit i value None ok = absurd cc

pub bind_ok : {A B : Type 0} (read : Result A FromHexError) (f : A → Result B FromHexError) (y : B) → (read >>= f) ≡ Ok y → (x : A) × (read ≡ Ok x) × (f x ≡ Ok y)
bind_ok (Ok x) f y e = (x, refl, e)
bind_ok (Err fault) f y e = absurd cc

pair_read : (high low i value : ℕ) → pair_value high low i ≡ Ok value → pair_octet high low ≡ value
pair_read high low i value e =
    let (h, first, more) = bind_ok (value_at high i) _ value e in
    let (l, second, whole) = bind_ok (value_at low (i + 1)) _ value more in
    let (left, small_left) = value_of_digit high h (digit_read high i h (hex_digit_value high) first) in
    let (right, small_right) = value_of_digit low l (digit_read low (i + 1) l (hex_digit_value low) second) in
    let sum : h * 16 + l ≡ value = cc in
    omega (arith, left, right, small_left, small_right, sum)

pub no_octet : (i : ℕ) (octets : List ℕ) → decode_pairs i [] ≡ Ok octets → [] ≡ octets
unfolding decode_pairs
no_octet i octets e = cc

pub no_pair : (i digit : ℕ) (octets : List ℕ) → decode_pairs i (digit ∷ []) ≡ Ok octets → ⊥
unfolding decode_pairs
no_pair i digit octets e = cc

one_pair : (i high low : ℕ) (digits octets : List ℕ) → decode_pairs i (high ∷ low ∷ digits) ≡ Ok octets
    → (more : List ℕ) × (decode_pairs (i + 2) digits ≡ Ok more) × (pair_octet high low ∷ more ≡ octets)
unfolding decode_pairs
one_pair i high low digits octets e =
    let (value, first, rest) = bind_ok (pair_value high low i) _ octets e in
    let (more, second, whole) = bind_ok (decode_pairs (i + 2) digits) _ octets rest in
    (more, second, ap (λ v. v ∷ more) (pair_read high low i value first) ∙ cc)

-- ---- digit by digit

pending : Option ℕ → List ℕ → List ℕ
pending None digits = digits
pending (Some high) digits = high ∷ digits

pub split_parts : (text : List ℕ) → (first : List ℕ) × (others : List (List ℕ)) × (slice_split (λ octet. octet == 32) text ≡ first ∷ others)
split_parts text = parts (slice_split (λ octet. octet == 32) text) (length-slice_split (λ octet. octet == 32) text)
  where
    parts : (words : List (List ℕ)) → length words ≡ count_by (λ octet. octet == 32) text + 1 → (first : List ℕ) × (others : List (List ℕ)) × (words ≡ first ∷ others)
    parts [] e = absurd (omega (arith, e))
    parts (first ∷ others) e = (first, others, refl)

head_of : List (List ℕ) → List ℕ
head_of [] = []
head_of (first ∷ others) = first

tail_of : List (List ℕ) → List (List ℕ)
tail_of [] = []
tail_of (first ∷ others) = others

-- text after a high digit or none: its first word, after that digit, and the words after it spell these octets
record Spells (high : Option ℕ) (i : ℕ) (text octets more : List ℕ) : Type 0 where
  first : List ℕ
  others : List (List ℕ)
  words : slice_split (λ octet. octet == 32) text ≡ first ∷ others
  here : decode_pairs i (pending high first) ≡ Ok octets
  behind : octets_of_words others ≡ Some more

record IsParted (first : List ℕ) (others words : List (List ℕ)) : Type 0 where
  front : first ≡ head_of words
  back : others ≡ tail_of words

parted : (first : List ℕ) (others words : List (List ℕ)) → words ≡ first ∷ others → IsParted first others words
unfolding head_of tail_of
parted first others words e = record { front = ap head_of (sym e); back = ap tail_of (sym e) }

some_same : (x y : List ℕ) → Some x ≡ Some y → x ≡ y
some_same x y e = cc

spelt_all : (high : Option ℕ) (i : ℕ) (text octets more : List ℕ) → Spells high i text octets more → spelt_behind high text ≡ octets ++ more
unfolding head_of tail_of pending
spelt_all None i [] octets more s =
    let p = parted s.first s.others ([] ∷ []) s.words in
    let none : [] ≡ octets = no_octet i octets (ap (decode_pairs i) (sym p.front) ∙ s.here) in
    let last : [] ≡ more = some_same [] more (ap octets_of_words (sym p.back) ∙ s.behind) in
    cc
spelt_all (Some high) i [] octets more s =
    let p = parted s.first s.others ([] ∷ []) s.words in
    absurd (no_pair i high octets (ap (λ (d : List ℕ). decode_pairs i (high ∷ d)) (sym p.front) ∙ s.here))
spelt_all None i (digit ∷ text) octets more s = elim (cases_Bool (digit == 32)) [
  | inl space ↦
      let p = parted s.first s.others ([] ∷ slice_split (λ octet. octet == 32) text) (sym (slice_split-cons_yes (λ octet. octet == 32) digit text space) ∙ s.words) in
      let none : [] ≡ octets = no_octet i octets (ap (decode_pairs i) (sym p.front) ∙ s.here) in
      let (first, others, words) = split_parts text in
      let (front, back, here, behind, whole) = words_parts first others more (ap octets_of_words (sym words ∙ sym p.back) ∙ s.behind) in
      cond-true (digit == 32) (spelt_behind None text) (spelt_behind (Some digit) text) space
      ∙ spelt_all None 0 text front back (record { first = first; others = others; words = words; here = word_read first front here; behind = behind })
      ∙ whole
      ∙ ap (λ (o : List ℕ). o ++ more) none
  | inr other ↦
      let (first, others, words) = split_parts text in
      let p = parted s.first s.others ((digit ∷ first) ∷ others) (sym (ap (onto_first digit) words) ∙ sym (slice_split-cons_no (λ octet. octet == 32) digit text other) ∙ s.words) in
      cond-false (digit == 32) (spelt_behind None text) (spelt_behind (Some digit) text) other
      ∙ spelt_all (Some digit) i text octets more (record {
        first = first;
        others = others;
        words = words;
        here = ap (decode_pairs i) (sym p.front) ∙ s.here;
        behind = ap octets_of_words (sym p.back) ∙ s.behind;
      })
]
spelt_all (Some high) i (digit ∷ text) octets more s = elim (cases_Bool (digit == 32)) [
  | inl space ↦
      let p = parted s.first s.others ([] ∷ slice_split (λ octet. octet == 32) text) (sym (slice_split-cons_yes (λ octet. octet == 32) digit text space) ∙ s.words) in
      absurd (no_pair i high octets (ap (λ (d : List ℕ). decode_pairs i (high ∷ d)) (sym p.front) ∙ s.here))
  | inr other ↦
      let (first, others, words) = split_parts text in
      let p = parted s.first s.others ((digit ∷ first) ∷ others) (sym (ap (onto_first digit) words) ∙ sym (slice_split-cons_no (λ octet. octet == 32) digit text other) ∙ s.words) in
      let (rest, here, whole) = one_pair i high digit first octets (ap (λ (d : List ℕ). decode_pairs i (high ∷ d)) (sym p.front) ∙ s.here) in
      ap (λ (o : List ℕ). pair_octet high digit ∷ o)
      (spelt_all None (i + 2) text rest more (record { first = first; others = others; words = words; here = here; behind = ap octets_of_words (sym p.back) ∙ s.behind }))
      ∙ ap (λ (o : List ℕ). o ++ more) whole
]

-- the octets of words are what their digits spell
pub words_spell : (text octets : List ℕ) → octets_of_words (slice_split (λ octet. octet == 32) text) ≡ Some octets → spelt_behind None text ≡ octets
unfolding pending
words_spell text octets e =
    let (first, others, words) = split_parts text in
    let (front, more, here, behind, whole) = words_parts first others octets (ap octets_of_words (sym words) ∙ e) in
    spelt_all None 0 text front more (record { first = first; others = others; words = words; here = word_read first front here; behind = behind }) ∙ whole

pub some_value : (o : Option (List ℕ)) → is_some o ≡ true → (octets : List ℕ) × (o ≡ Some octets)
some_value None e = absurd cc
some_value (Some octets) e = (octets, refl)

-- ---- a word of too few or too many digits

none_by : (most : ℕ) (word : List ℕ) (read : Read) → decode_of word ≡ read → length word / 2 ≡ 0 → length word ≢ 0 → None ≡ option_and_then (octets_within most) (result_ok read)
none_by most word (Ok octets) e short filled =
    let (even, digits, twice, bytes) = decode_of-ok word octets e in
    absurd (filled (omega (arith, even)))
none_by most word (Err fault) e short filled = refl

pub no_octets : (most : ℕ) (word : List ℕ) → length word / 2 ≡ 0 → None ≡ octets_up_to most word
no_octets most word short = elim (cases_eq (length word) 0) [
  | inl none ↦ ap (option_and_then (octets_within most)) (sym (cond-true (length word == 0) None (result_ok (decode_of word)) (eq-eqb (length word) 0 none)))
  | inr some ↦
      none_by most word (decode_of word) refl short some
      ∙ ap (option_and_then (octets_within most)) (sym (cond-false (length word == 0) None (result_ok (decode_of word)) (ne_eqb (length word) 0 some)))
]

many_by : (most : ℕ) (word : List ℕ) (read : Read) → decode_of word ≡ read → most < length word / 2 → None ≡ option_and_then (octets_within most) (result_ok read)
many_by most word (Ok octets) e long =
    let (even, digits, twice, bytes) = decode_of-ok word octets e in
    let many : most < length octets = omega (arith, twice) in
    sym (cond-false (leb (length octets) most) (Some octets) None (lt-leb (length octets) most many))
many_by most word (Err fault) e long = refl

pub too_many_octets : (most : ℕ) (word : List ℕ) → most < length word / 2 → None ≡ octets_up_to most word
too_many_octets most word long =
    let some : length word ≢ 0 = λ none. omega (arith, none) in
    many_by most word (decode_of word) refl long
    ∙ ap (option_and_then (octets_within most)) (sym (cond-false (length word == 0) None (result_ok (decode_of word)) (ne_eqb (length word) 0 some)))

-- ---- a word that is decoded into room for its pairs

pub in_its_room : (word : List ℕ) (room : ℕ) → room ≡ length word / 2 → decode_sized word room ≡ decode_of word
in_its_room word room half = elim (cases_eq (length word % 2) 1) [
  | inl odd ↦ decode_sized-odd word room odd ∙ sym (decode_of-odd word odd)
  | inr even ↦ decode_sized-twice word room (omega arith)
]

-- the result of a word of some octets, if there are at most `most` of them
pub given : (most : ℕ) (word octets : List ℕ) → Some octets ≡ result_ok (decode_of word) → length octets ≤ most → length word ≢ 0 → Some octets ≡ octets_up_to most word
given most word octets read few filled =
    sym (cond-true (leb (length octets) most) (Some octets) None (le-leb (length octets) most few))
    ∙ ap (option_and_then (octets_within most)) (read ∙ sym (cond-false (length word == 0) None (result_ok (decode_of word)) (ne_eqb (length word) 0 filled)))

pub not_given : (most : ℕ) (word : List ℕ) → None ≡ result_ok (decode_of word) → length word ≢ 0 → None ≡ octets_up_to most word
not_given most word read filled =
    ap (option_and_then (octets_within most)) (read ∙ sym (cond-false (length word == 0) None (result_ok (decode_of word)) (ne_eqb (length word) 0 filled)))

pub overwritten : (new old : List ℕ) → length new ≡ length old → take (length old) (new ++ drop (length new) old) ≡ new
overwritten new old same = grind (arith, common_steps)
