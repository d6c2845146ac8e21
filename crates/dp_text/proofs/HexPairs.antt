-- Words of whole pairs of hex digits, pair by pair.
use Rattle.std.proofs.Common.{◌≡◌, ◌≢◌, ℕ, ◌+◌, ◌*◌, ◌-◌, ◌<◌, ◌≤◌, ◌%◌, ◌==◌, true, false, ◌&&◌, Bool, List, [], ◌∷◌, length, take, drop, Option, None, is_some, inl, inr, refl, sym, ap, ◌∙◌, arith}
use Rattle.std.specs.Prelude.{slice_index_or}
use Rattle.std.proofs.lemmas.List.{drop_more, take_rest}
use Rattle.std.specs.List.{slice_split, onto_first, list_all}
use Rattle.std.specs.Result.{result_ok}
use Rattle.std.proofs.lemmas.Bool.{cases_Bool, cases_eq, cond-false, eqb-true, ne_eqb}
use Rattle.std.proofs.lemmas.List.Splits.{slice_split-cons_yes, slice_split-cons_no}
use Rattle.hex.specs.Hex.{decode_of, is_hex_digit}
use Rattle.hex.proofs.HexLemmas.{decode_of-odd}
use Rattle.dp_text.specs.HexWords.{octets_of_word, octets_of_words}
use Rattle.dp_text.proofs.HexSpellings.{hex_word, some_words, split_parts}

abbrev pub is_space : ℕ → Bool
is_space octet = octet == 32

abbrev pub words_in : List ℕ → List (List ℕ)
words_in text = slice_split (λ octet. octet == 32) text

abbrev pub are_hex : List ℕ → Bool
are_hex text = is_some (octets_of_words (words_in text))

odd_word : (word : List ℕ) → length word ≢ 0 → length word % 2 ≡ 1 → is_some (octets_of_word word) ≡ false
odd_word word filled odd =
    ap (λ (o : Option (List ℕ)). is_some o) (cond-false (length word == 0) None (result_ok (decode_of word)) (ne_eqb (length word) 0 filled))
    ∙ ap (λ r. is_some (result_ok r)) (decode_of-odd word odd)

all_more : (a b c : Bool) → a ≡ true → b ≡ true → (a && (b && c)) ≡ c
all_more true true c first second = refl
all_more true false c first second = absurd cc
all_more false b c first second = absurd cc

not_all : (a b c : Bool) → (a && b) ≡ false → (a && (b && c)) ≡ false
not_all true true c e = absurd cc
not_all true false c e = refl
not_all false b c e = refl

-- a pair in front of more digits of its word
pair_more : (high low next : ℕ) (word : List ℕ) → is_hex_digit high ≡ true → is_hex_digit low ≡ true
    → is_some (octets_of_word (high ∷ low ∷ next ∷ word)) ≡ is_some (octets_of_word (next ∷ word))
pair_more high low next word first second = elim (cases_eq (length (next ∷ word) % 2) 0) [
  | inl even ↦
      sym (hex_word (high ∷ low ∷ next ∷ word) (λ e. absurd cc) (omega (arith, even)))
      ∙ all_more (is_hex_digit high) (is_hex_digit low) (list_all is_hex_digit (next ∷ word)) first second
      ∙ hex_word (next ∷ word) (λ e. absurd cc) even
  | inr odd ↦
      odd_word (high ∷ low ∷ next ∷ word) (λ e. absurd cc) (omega (arith, odd))
      ∙ sym (odd_word (next ∷ word) (λ e. absurd cc) (omega (arith, odd)))
]

pair_alone : (high low : ℕ) → is_hex_digit high ≡ true → is_hex_digit low ≡ true → is_some (octets_of_word (high ∷ low ∷ [])) ≡ true
pair_alone high low first second =
    sym (hex_word (high ∷ low ∷ []) (λ e. absurd cc) refl) ∙ all_more (is_hex_digit high) (is_hex_digit low) true first second

no_pair_word : (high low : ℕ) (word : List ℕ) → (is_hex_digit high && is_hex_digit low) ≡ false → is_some (octets_of_word (high ∷ low ∷ word)) ≡ false
no_pair_word high low word other = elim (cases_eq (length (high ∷ low ∷ word) % 2) 0) [
  | inl even ↦
      sym (hex_word (high ∷ low ∷ word) (λ e. absurd cc) even) ∙ not_all (is_hex_digit high) (is_hex_digit low) (list_all is_hex_digit word) other
  | inr odd ↦ odd_word (high ∷ low ∷ word) (λ e. absurd cc) (omega (arith, odd))
]

no_space : (digit : ℕ) → is_hex_digit digit ≡ true → (digit == 32) ≡ false
no_space digit hex = elim (cases_Bool (digit == 32)) [
  | inl space ↦ absurd (let e : is_hex_digit digit ≡ is_hex_digit 32 = ap is_hex_digit (eqb-true digit 32 space) in cc)
  | inr other ↦ other
]

-- ---- texts

pub nothing : are_hex [] ≡ false
nothing = refl

false_first : (first : List ℕ) (others : List (List ℕ)) (words : List (List ℕ)) → words ≡ first ∷ others → is_some (octets_of_word first) ≡ false → is_some (octets_of_words words) ≡ false
false_first first others words is none =
    ap (λ (w : List (List ℕ)). is_some (octets_of_words w)) is ∙ some_words first others ∙ ap (λ (b : Bool). b && is_some (octets_of_words others)) none

pub one_digit : (digit : ℕ) → are_hex (digit ∷ []) ≡ false
one_digit digit = elim (cases_Bool (digit == 32)) [
  | inl space ↦ false_first [] ([] ∷ []) _ (slice_split-cons_yes (λ octet. octet == 32) digit [] space) refl
  | inr other ↦ false_first (digit ∷ []) [] _ (slice_split-cons_no (λ octet. octet == 32) digit [] other) (odd_word (digit ∷ []) (λ e. absurd cc) refl)
]

pair_parts : (high low : ℕ) (rest first : List ℕ) (others : List (List ℕ)) → (high == 32) ≡ false → (low == 32) ≡ false → words_in rest ≡ first ∷ others
    → words_in (high ∷ low ∷ rest) ≡ (high ∷ low ∷ first) ∷ others
pair_parts high low rest first others no_high no_low words =
    slice_split-cons_no (λ octet. octet == 32) high (low ∷ rest) no_high
    ∙ ap (onto_first high) (slice_split-cons_no (λ octet. octet == 32) low rest no_low ∙ ap (onto_first low) words)

pub other_pair : (high low : ℕ) (rest : List ℕ) → (is_hex_digit high && is_hex_digit low) ≡ false → are_hex (high ∷ low ∷ rest) ≡ false
other_pair high low rest other = elim (cases_Bool (high == 32)) [
  | inl space ↦ false_first [] (words_in (low ∷ rest)) _ (slice_split-cons_yes (λ octet. octet == 32) high (low ∷ rest) space) refl
  | inr no_high ↦ elim (cases_Bool (low == 32)) [
    | inl space ↦
        false_first (high ∷ []) (words_in rest) _
        (slice_split-cons_no (λ octet. octet == 32) high (low ∷ rest) no_high ∙ ap (onto_first high) (slice_split-cons_yes (λ octet. octet == 32) low rest space))
        (odd_word (high ∷ []) (λ e. absurd cc) refl)
    | inr no_low ↦
        let (first, others, words) = split_parts rest in
        false_first (high ∷ low ∷ first) others _ (pair_parts high low rest first others no_high no_low words) (no_pair_word high low first other)
  ]
]

pub last_pair : (high low : ℕ) → is_hex_digit high ≡ true → is_hex_digit low ≡ true → are_hex (high ∷ low ∷ []) ≡ true
last_pair high low first second =
    ap (λ (w : List (List ℕ)). is_some (octets_of_words w)) (pair_parts high low [] [] [] (no_space high first) (no_space low second) refl)
    ∙ some_words (high ∷ low ∷ []) []
    ∙ ap (λ (b : Bool). b && is_some (octets_of_words [])) (pair_alone high low first second)

pub pair_and_space : (high low space : ℕ) (more : List ℕ) → is_hex_digit high ≡ true → is_hex_digit low ≡ true → space ≡ 32 → are_hex (high ∷ low ∷ space ∷ more) ≡ are_hex more
pair_and_space high low space more first second is =
    ap (λ (s : ℕ). are_hex (high ∷ low ∷ s ∷ more)) is
    ∙ ap (λ (w : List (List ℕ)). is_some (octets_of_words w)) (pair_parts high low (32 ∷ more) [] (words_in more) (no_space high first) (no_space low second) (slice_split-cons_yes (λ octet. octet == 32) 32 more refl))
    ∙ some_words (high ∷ low ∷ []) (words_in more)
    ∙ ap (λ (b : Bool). b && are_hex more) (pair_alone high low first second)

pub pair_and_digits : (high low next : ℕ) (more : List ℕ) → is_hex_digit high ≡ true → is_hex_digit low ≡ true → (next == 32) ≡ false → are_hex (high ∷ low ∷ next ∷ more) ≡ are_hex (next ∷ more)
pair_and_digits high low next more first second other =
    let (word, others, words) = split_parts more in
    let here : words_in (next ∷ more) ≡ (next ∷ word) ∷ others = slice_split-cons_no (λ octet. octet == 32) next more other ∙ ap (onto_first next) words in
    ap (λ (w : List (List ℕ)). is_some (octets_of_words w)) (pair_parts high low (next ∷ more) (next ∷ word) others (no_space high first) (no_space low second) here)
    ∙ some_words (high ∷ low ∷ next ∷ word) others
    ∙ ap (λ (b : Bool). b && is_some (octets_of_words others)) (pair_more high low next word first second)
    ∙ sym (ap (λ (w : List (List ℕ)). is_some (octets_of_words w)) here ∙ some_words (next ∷ word) others)

-- ---- texts by their length

pub too_short : (text : List ℕ) → length text < 2 → are_hex text ≡ false
too_short [] short = nothing
too_short (digit ∷ []) short = one_digit digit
too_short (high ∷ low ∷ rest) short = absurd (omega (arith, short))

pub not_paired : (text : List ℕ) → 2 ≤ length text → (is_hex_digit (slice_index_or text 0 0) && is_hex_digit (slice_index_or text 1 0)) ≡ false → are_hex text ≡ false
not_paired [] long other = absurd (omega (arith, long))
not_paired (digit ∷ []) long other = absurd (omega (arith, long))
not_paired (high ∷ low ∷ rest) long other = other_pair high low rest other

-- the text after the first pair
abbrev pub behind_pair : List ℕ → List ℕ
behind_pair text = take (length text - 2) (drop 2 text)

both_true : (a b : Bool) → (a && b) ≡ true → (a ≡ true) × (b ≡ true)
both_true true b e = (refl, e)
both_true false b e = absurd cc

rest_is : (high low : ℕ) (rest : List ℕ) → behind_pair (high ∷ low ∷ rest) ≡ rest
rest_is high low rest = take_rest (high ∷ low ∷ rest) 2

ended_by : (high low : ℕ) (rest : List ℕ) → length rest < 1 → is_hex_digit high ≡ true → is_hex_digit low ≡ true → are_hex (high ∷ low ∷ rest) ≡ true
ended_by high low [] short first second = last_pair high low first second
ended_by high low (next ∷ rest) short first second = absurd (omega (arith, short))

pub ended : (text : List ℕ) → 2 ≤ length text → (is_hex_digit (slice_index_or text 0 0) && is_hex_digit (slice_index_or text 1 0)) ≡ true → length (behind_pair text) < 1 → are_hex text ≡ true
ended [] long pair short = absurd (omega (arith, long))
ended (digit ∷ []) long pair short = absurd (omega (arith, long))
ended (high ∷ low ∷ rest) long pair short =
    let (first, second) = both_true (is_hex_digit high) (is_hex_digit low) pair in
    ended_by high low rest (omega (arith, short, ap length (rest_is high low rest))) first second

spaced_by : (high low : ℕ) (rest : List ℕ) → 1 ≤ length rest → slice_index_or rest 0 0 ≡ 32 → is_hex_digit high ≡ true → is_hex_digit low ≡ true
    → are_hex (take (length rest - 1) (drop 1 rest)) ≡ are_hex (high ∷ low ∷ rest)
spaced_by high low [] some space first second = absurd (omega (arith, some))
spaced_by high low (next ∷ rest) some space first second =
    ap are_hex (take_rest (next ∷ rest) 1) ∙ sym (pair_and_space high low next rest first second space)

pub spaced : (text : List ℕ) → 2 ≤ length text → (is_hex_digit (slice_index_or text 0 0) && is_hex_digit (slice_index_or text 1 0)) ≡ true
    → 1 ≤ length (behind_pair text) → slice_index_or (behind_pair text) 0 0 ≡ 32
    → are_hex (take (length (behind_pair text) - 1) (drop 1 (behind_pair text))) ≡ are_hex text
spaced [] long pair some space = absurd (omega (arith, long))
spaced (digit ∷ []) long pair some space = absurd (omega (arith, long))
spaced (high ∷ low ∷ rest) long pair some space =
    let (first, second) = both_true (is_hex_digit high) (is_hex_digit low) pair in
    ap (λ (r : List ℕ). are_hex (take (length r - 1) (drop 1 r))) (rest_is high low rest)
    ∙ spaced_by high low rest (omega (arith, some, ap length (rest_is high low rest))) (ap (λ (r : List ℕ). slice_index_or r 0 0) (sym (rest_is high low rest)) ∙ space) first second

on_by : (high low : ℕ) (rest : List ℕ) → 1 ≤ length rest → slice_index_or rest 0 0 ≢ 32 → is_hex_digit high ≡ true → is_hex_digit low ≡ true → are_hex rest ≡ are_hex (high ∷ low ∷ rest)
on_by high low [] some other first second = absurd (omega (arith, some))
on_by high low (next ∷ rest) some other first second = sym (pair_and_digits high low next rest first second (ne_eqb next 32 other))

pub goes_on : (text : List ℕ) → 2 ≤ length text → (is_hex_digit (slice_index_or text 0 0) && is_hex_digit (slice_index_or text 1 0)) ≡ true
    → 1 ≤ length (behind_pair text) → slice_index_or (behind_pair text) 0 0 ≢ 32 → are_hex (behind_pair text) ≡ are_hex text
goes_on [] long pair some other = absurd (omega (arith, long))
goes_on (digit ∷ []) long pair some other = absurd (omega (arith, long))
goes_on (high ∷ low ∷ rest) long pair some other =
    let (first, second) = both_true (is_hex_digit high) (is_hex_digit low) pair in
    ap are_hex (rest_is high low rest)
    ∙ on_by high low rest (omega (arith, some, ap length (rest_is high low rest))) (λ e. other (ap (λ (r : List ℕ). slice_index_or r 0 0) (rest_is high low rest) ∙ e)) first second

-- ---- the text after a pair

-- it makes words after the digits 00, and so after any pair
abbrev pub are_behind : List ℕ → Bool
are_behind left = are_hex (48 ∷ 48 ∷ left)

-- a pair is read
behind : (high low : ℕ) (rest : List ℕ) → (is_hex_digit high && is_hex_digit low) ≡ true → are_hex (high ∷ low ∷ rest) ≡ are_behind rest
behind high low [] pair =
    let (first, second) = both_true (is_hex_digit high) (is_hex_digit low) pair in
    last_pair high low first second ∙ sym (last_pair 48 48 refl refl)
behind high low (next ∷ more) pair =
    let (first, second) = both_true (is_hex_digit high) (is_hex_digit low) pair in
    elim (cases_eq next 32) [
      | inl space ↦ pair_and_space high low next more first second space ∙ sym (pair_and_space 48 48 next more refl refl space)
      | inr other ↦ pair_and_digits high low next more first second (ne_eqb next 32 other) ∙ sym (pair_and_digits 48 48 next more refl refl (ne_eqb next 32 other))
    ]

behind_space : (next : ℕ) (more : List ℕ) → next ≡ 32 → are_behind (next ∷ more) ≡ are_hex more
behind_space next more space = pair_and_space 48 48 next more refl refl space

behind_other : (next : ℕ) (more : List ℕ) → next ≢ 32 → are_behind (next ∷ more) ≡ are_hex (next ∷ more)
behind_other next more other = pair_and_digits 48 48 next more refl refl (ne_eqb next 32 other)

not_space : (digit : ℕ) → is_hex_digit digit ≡ true → digit ≢ 32
not_space digit hex space = let e : is_hex_digit digit ≡ is_hex_digit 32 = ap is_hex_digit space in absurd cc

another : (high low : ℕ) (rest : List ℕ) → (is_hex_digit high && is_hex_digit low) ≡ true → are_behind (high ∷ low ∷ rest) ≡ are_behind rest
another high low rest pair =
    let (first, second) = both_true (is_hex_digit high) (is_hex_digit low) pair in
    behind_other high (low ∷ rest) (not_space high first) ∙ behind high low rest pair

pub none_behind : (left : List ℕ) → length left < 1 → are_behind left ≡ true
none_behind [] short = last_pair 48 48 refl refl
none_behind (next ∷ more) short = absurd (omega (arith, short))

pub space_behind : (left : List ℕ) → 1 ≤ length left → slice_index_or left 0 0 ≡ 32 → are_hex (take (length left - 1) (drop 1 left)) ≡ are_behind left
space_behind [] some space = absurd (omega (arith, some))
space_behind (next ∷ more) some space = ap are_hex (take_rest (next ∷ more) 1) ∙ sym (behind_space next more space)

pub digit_behind : (left : List ℕ) → 1 ≤ length left → slice_index_or left 0 0 ≢ 32 → are_hex left ≡ are_behind left
digit_behind [] some other = absurd (omega (arith, some))
digit_behind (next ∷ more) some other = sym (behind_other next more other)

pub pair_read : (text : List ℕ) → 2 ≤ length text → (is_hex_digit (slice_index_or text 0 0) && is_hex_digit (slice_index_or text 1 0)) ≡ true
    → are_behind (behind_pair text) ≡ are_hex text
pair_read [] long pair = absurd (omega (arith, long))
pair_read (high ∷ []) long pair = absurd (omega (arith, long))
pair_read (high ∷ low ∷ rest) long pair = ap are_behind (rest_is high low rest) ∙ sym (behind high low rest pair)

-- ---- pairs by their index

pub front_pair : (text : List ℕ) (count : ℕ) → 2 * count + 1 < length text
    → drop (2 * count) text ≡ slice_index_or text (2 * count) 0 ∷ slice_index_or text (2 * count + 1) 0 ∷ drop (2 * (count + 1)) text
front_pair text count long =
    let next : 2 * count + 1 + 1 ≡ 2 * (count + 1) = omega arith in
    drop_more text (2 * count) 0 (omega (arith, long))
    ∙ ap (λ (rest : List ℕ). slice_index_or text (2 * count) 0 ∷ rest)
    (drop_more text (2 * count + 1) 0 long ∙ ap (λ n. slice_index_or text (2 * count + 1) 0 ∷ drop n text) next)

pub pair_more_read : (text : List ℕ) (count : ℕ) → 2 * count + 1 < length text
    → (is_hex_digit (slice_index_or text (2 * count) 0) && is_hex_digit (slice_index_or text (2 * count + 1) 0)) ≡ true
    → (0 < count → are_behind (drop (2 * count) text) ≡ are_hex text) → are_behind (drop (2 * (count + 1)) text) ≡ are_hex text
pair_more_read text count long pair so_far =
    let high = slice_index_or text (2 * count) 0 in
    let low = slice_index_or text (2 * count + 1) 0 in
    let rest = drop (2 * (count + 1)) text in
    let front = front_pair text count long in
    elim (cases_eq count 0) [
      | inl none ↦
          let start : 0 ≡ 2 * count = omega (arith, none) in
          sym (behind high low rest pair) ∙ sym (ap are_hex (ap (λ n. drop n text) start ∙ front))
      | inr some ↦ sym (ap are_behind front ∙ another high low rest pair) ∙ so_far (omega (arith, some))
    ]

pub first_other : (text : List ℕ) (count : ℕ) → count ≡ 0 → 2 * count + 1 < length text
    → (is_hex_digit (slice_index_or text (2 * count) 0) && is_hex_digit (slice_index_or text (2 * count + 1) 0)) ≡ false → are_hex text ≡ false
first_other text count none long other =
    let start : 0 ≡ 2 * count = omega (arith, none) in
    ap are_hex (ap (λ n. drop n text) start ∙ front_pair text count long)
    ∙ other_pair (slice_index_or text (2 * count) 0) (slice_index_or text (2 * count + 1) 0) (drop (2 * (count + 1)) text) other
