-- What is read is what was written.
use Rattle.std.proofs.Common.{◌≡◌, ◌≢◌, ℕ, zero, suc, ◌+◌, ◌*◌, ◌/◌, ◌%◌, ◌^◌, ◌<◌, ◌==◌, eqb, leb, ltb, Bool, true, false, not, ◌&&◌, ◌||◌, cond, List, [], ◌∷◌, ◌++◌, length, get_or, Option, Some, None, Ok, inl, inr, refl, sym, ap, ◌∙◌, codes, arith}
use Rattle.std.specs.Prelude.{slice_index, option_map, option_and_then}
use Rattle.std.specs.List.{list_any, join_with_byte}
use Rattle.std.specs.Fmt.{decimal}
use Rattle.std.specs.Char.{is_ascii_uppercase}
use Rattle.std.specs.Str.{all_ascii_digits}
use Rattle.std.specs.Str.Parse.{digits_value}
use Rattle.std.specs.Result.{result_ok}
use Rattle.std.proofs.lemmas.Bool.{cases_Bool, cases_lt, and_parts, or_parts, not-true, eqb-true, eqb-false, leb-true, eq-eqb, cond-true, cond-false}
use Rattle.std.proofs.lemmas.Bool.Decides.{nat_tests}
use Rattle.std.proofs.lemmas.Fmt.{decimal-digits_value}
use Rattle.std.proofs.lemmas.List.Splits.{join_with_byte-slice_split}
use Rattle.hex.specs.Hex.{encode_lower, encode_with, lower_digits, decode_of, decode_pairs, pair_value, value_at, hex_digit_value}
use Rattle.dp_line.specs.declared.event.Event.{Event}
use Rattle.dp_line.specs.declared.event.Event.TheVariants.{Request, Operator}
use Rattle.dp_line.specs.declared.event.Op.{Op}
use Rattle.dp_line.specs.declared.event.Op.TheVariants.{Input, Busy, Tick, Halt}
use Rattle.dp_text.specs.declared.ops.HexCase.TheVariants.{Lower}
use Rattle.dp_text.specs.Numbers.{is_plain_decimal, number_to, octet_number}
use Rattle.dp_text.specs.Words.{words_of, same_text}
use Rattle.dp_text.specs.HexWords.{octets_of_word}
use Rattle.dp_text.specs.Texts.{octets_text, flags_text, point_text, on_or_off_text, op_text, event_text}
use Rattle.dp_text.specs.Events.{Flags, diag_with, all_flags, text_of_flags, first_with_text, octets_within, octets_up_to, event_octets, flags_of, on_or_off, point_of, input_of, diag_of, busy_of, tick_of, halt_of, op_of_words, request_of, event_of_words, event_of}
use Rattle.dp_text.proofs.HexSpellings.{bind_ok, digit_read, value_of_digit, word_read, no_octet, no_pair}
use Rattle.dp_text.proofs.ReadBack.{own, same_is, two_joined, three_joined}

-- ---- texts and numbers

pub some_by : {X : Type 0} (test : Bool) (x y : X) → cond test (Some x) None ≡ Some y → (test ≡ true) × (x ≡ y)
some_by true x y e = (refl, cc)
some_by false x y e = absurd cc

pub number_is : (most : ℕ) (word : List ℕ) (number : ℕ) → most < 2 ^ 64 → number_to most word ≡ Some number → decimal number ≡ word
number_is most word number bound e =
    let (test, is) = some_by (is_plain_decimal word && leb (digits_value 10 word) most) (digits_value 10 word) number e in
    let (plain, within) = and_parts (is_plain_decimal word) (leb (digits_value 10 word) most) test in
    let (some, first) = and_parts (all_ascii_digits word && not (eqb (length word) 0)) (eqb (length word) 1 || not (eqb (get_or word 0 0) 48)) plain in
    let (digits, filled) = and_parts (all_ascii_digits word) (not (eqb (length word) 0)) some in
    let long = eqb-false (length word) 0 (not-true (eqb (length word) 0) filled) in
    let small = leb-true (digits_value 10 word) most within in
    ap decimal (sym is)
    ∙ decimal-digits_value own word digits (omega arith) (λ nought. one_digit (length word) (get_or word 0 0) first nought) (omega arith)
  where
    one_digit : (count digit : ℕ) → (eqb count 1 || not (eqb digit 48)) ≡ true → digit ≡ 48 → count ≡ 1
    one_digit count digit e nought = grind (arith, nat_tests)

-- ---- octets

at_place : ℕ → Bool
at_place value = eqb (slice_index lower_digits value) (cond (ltb value 10) (48 + value) (87 + value))

all_below : ℕ → Bool
all_below zero = true
all_below (suc n) = at_place n && all_below n

below : (n k : ℕ) → all_below n ≡ true → k < n → at_place k ≡ true
unfolding all_below
below zero k all lt = absurd (omega arith)
below (suc n) k all lt =
    let (last, others) = and_parts (at_place n) (all_below n) all in
    elim (cases_lt k n) [
      | inl less ↦ below n k others less
      | inr more ↦
          let e : k ≡ n = omega arith in
          rw e last
    ]

digit_at : (value : ℕ) → value < 16 → slice_index lower_digits value ≡ cond (ltb value 10) (48 + value) (87 + value)
unfolding at_place all_below
digit_at value small = eqb-true _ _ (below 16 value refl small)

letter_or_digit : (digit value : ℕ) → hex_digit_value digit ≡ Some value → is_ascii_uppercase digit ≡ false → cond (ltb value 10) (48 + value) (87 + value) ≡ digit
letter_or_digit digit value e lower = grind (arith, nat_tests)

digit_is : (digit value : ℕ) → hex_digit_value digit ≡ Some value → is_ascii_uppercase digit ≡ false → value < 16 → slice_index lower_digits value ≡ digit
digit_is digit value e lower small = digit_at value small ∙ letter_or_digit digit value e lower

pair_is : (high low i octet : ℕ) → pair_value high low i ≡ Ok octet → is_ascii_uppercase high ≡ false → is_ascii_uppercase low ≡ false
    → (slice_index lower_digits (octet / 16) ≡ high) × (slice_index lower_digits (octet % 16) ≡ low)
pair_is high low i octet e no_high no_low =
    let (h, first, more) = bind_ok (value_at high i) _ octet e in
    let (l, second, whole) = bind_ok (value_at low (i + 1)) _ octet more in
    let left = digit_read high i h (hex_digit_value high) first in
    let right = digit_read low (i + 1) l (hex_digit_value low) second in
    let (left_is, small_left) = value_of_digit high h left in
    let (right_is, small_right) = value_of_digit low l right in
    let sum : h * 16 + l ≡ octet = cc in
    let front : octet / 16 ≡ h = omega (arith, sum, small_left, small_right) in
    let back : octet % 16 ≡ l = omega (arith, sum, small_left, small_right) in
    (ap (slice_index lower_digits) front ∙ digit_is high h left no_high small_left, ap (slice_index lower_digits) back ∙ digit_is low l right no_low small_right)

lower_is : (i : ℕ) (word octets : List ℕ) → decode_pairs i word ≡ Ok octets → list_any is_ascii_uppercase word ≡ false → encode_lower octets ≡ word
unfolding encode_with decode_pairs
lower_is i [] octets e lower = ap encode_lower (sym (no_octet i octets e))
lower_is i (digit ∷ []) octets e lower = absurd (no_pair i digit octets e)
lower_is i (high ∷ low ∷ word) octets e lower =
    let (no_high, rest) = or_parts (is_ascii_uppercase high) (is_ascii_uppercase low || list_any is_ascii_uppercase word) lower in
    let (no_low, others) = or_parts (is_ascii_uppercase low) (list_any is_ascii_uppercase word) rest in
    let (octet, first, more) = bind_ok (pair_value high low i) _ octets e in
    let (behind, second, whole) = bind_ok (decode_pairs (i + 2) word) _ octets more in
    let all : octet ∷ behind ≡ octets = cc in
    let (left, right) = pair_is high low i octet first no_high no_low in
    ap encode_lower (sym all)
    ∙ ap (λ d. d ∷ slice_index lower_digits (octet % 16) ∷ encode_lower behind) left
    ∙ ap (λ d. high ∷ d ∷ encode_lower behind) right
    ∙ ap (λ (ds : List ℕ). high ∷ low ∷ ds) (lower_is (i + 2) word behind second others)

filled_word : (word octets : List ℕ) → octets_of_word word ≡ Some octets → length word ≢ 0
filled_word word octets e none =
    absurd (let o : octets_of_word word ≡ None = cond-true (length word == 0) None (result_ok (decode_of word)) (eq-eqb (length word) 0 none) in cc)

written_as : (octets word : List ℕ) → encode_lower octets ≡ word → length word ≢ 0 → octets_text octets ≡ word
unfolding encode_with
written_as [] word e filled = absurd (filled (ap length (sym e)))
written_as (octet ∷ octets) word e filled = e

some_few : (most : ℕ) (read : Option (List ℕ)) (octets : List ℕ) → option_and_then (octets_within most) read ≡ Some octets → read ≡ Some octets
some_few most None octets e = absurd cc
some_few most (Some items) octets e = ap Some (some_by (leb (length items) most) items octets e).1

pub some_same : {X : Type 0} {x y : X} → Some x ≡ Some y → x ≡ y
some_same e = cc

pub octets_are : (most : ℕ) (word octets : List ℕ) → event_octets Lower most word ≡ Some octets → octets_text octets ≡ word
octets_are most word octets e = elim (cases_Bool (same_text word (codes "-"))) [
  | inl dash ↦
      let none : [] ≡ octets = some_same (sym (cond-true (same_text word (codes "-")) (Some []) (cond (list_any is_ascii_uppercase word) None (octets_up_to most word)) dash) ∙ e) in
      ap octets_text (sym none) ∙ sym (same_is word (codes "-") dash)
  | inr other ↦
      let more = sym (cond-false (same_text word (codes "-")) (Some []) (cond (list_any is_ascii_uppercase word) None (octets_up_to most word)) other) ∙ e in
      elim (cases_Bool (list_any is_ascii_uppercase word)) [
        | inl upper ↦ absurd (let o = sym (cond-true (list_any is_ascii_uppercase word) None (octets_up_to most word) upper) ∙ more in cc)
        | inr lower ↦
            let read = some_few most (octets_of_word word) octets (sym (cond-false (list_any is_ascii_uppercase word) None (octets_up_to most word) lower) ∙ more) in
            written_as octets word (lower_is 0 word octets (word_read word octets read) lower) (filled_word word octets read)
      ]
]

-- ---- flags, points and states

text_is : {X : Type 0} (text_of : X → List ℕ) (values : List X) (word : List ℕ) (value : X) → first_with_text text_of values word ≡ Some value → text_of value ≡ word
text_is text_of [] word value e = absurd cc
text_is text_of (first ∷ values) word value e = elim (cases_Bool (same_text word (text_of first))) [
  | inl same ↦
      let is : first ≡ value = some_same (sym (cond-true (same_text word (text_of first)) (Some first) (first_with_text text_of values word) same) ∙ e) in
      ap text_of (sym is) ∙ sym (same_is word (text_of first) same)
  | inr other ↦ text_is text_of values word value (sym (cond-false (same_text word (text_of first)) (Some first) (first_with_text text_of values word) other) ∙ e)
]

pub flags_are : (word : List ℕ) (flags : Flags) → flags_of word ≡ Some flags → flags_text flags.0 flags.1 flags.2 ≡ word
flags_are word flags e = text_is text_of_flags all_flags word flags e

pub state_is : (word : List ℕ) (on : Bool) → on_or_off word ≡ Some on → on_or_off_text on ≡ word
state_is word on e = text_is on_or_off_text (true ∷ false ∷ []) word on e

pub octet_is : (word : List ℕ) (number : ℕ) → octet_number word ≡ Some number → decimal number ≡ word
octet_is word number e = number_is 255 word number (omega arith) e

pub point_is : (word : List ℕ) (point : Option ℕ) → point_of word ≡ Some point → point_text point ≡ word
point_is word point e = elim (cases_Bool (same_text word (codes "default"))) [
  | inl same ↦
      let is : None ≡ point = some_same (sym (cond-true (same_text word (codes "default")) (Some None) (option_map Some (octet_number word)) same) ∙ e) in
      ap point_text (sym is) ∙ sym (same_is word (codes "default") same)
  | inr other ↦ by (octet_number word) refl (sym (cond-false (same_text word (codes "default")) (Some None) (option_map Some (octet_number word)) other) ∙ e)
]
  where
    by : (number : Option ℕ) → octet_number word ≡ number → option_map Some number ≡ Some point → point_text point ≡ word
    by None read e = absurd cc
    by (Some number) read e =
        let is : Some number ≡ point = some_same e in
        ap point_text (sym is) ∙ octet_is word number read

-- ---- what an operator does

pub two_are : (a b first second : List ℕ) → a ≡ first → b ≡ second → first ++ 32 ∷ second ≡ (a ++ 32 ∷ []) ++ b
two_are a b first second e f =
    ap (λ x. x ++ 32 ∷ second) (sym e) ∙ ap (λ x. a ++ 32 ∷ x) (sym f) ∙ sym (two_joined a b)

pub three_are : (a b c first second third : List ℕ) → a ≡ first → b ≡ second → c ≡ third → first ++ 32 ∷ (second ++ 32 ∷ third) ≡ (((a ++ 32 ∷ []) ++ b) ++ 32 ∷ []) ++ c
three_are a b c first second third e f g =
    ap (λ x. x ++ 32 ∷ (second ++ 32 ∷ third)) (sym e)
    ∙ ap (λ x. a ++ 32 ∷ (x ++ 32 ∷ third)) (sym f)
    ∙ ap (λ x. a ++ 32 ∷ (b ++ 32 ∷ x)) (sym g)
    ∙ sym (three_joined a b c)

input_is : (words : List (List ℕ)) (op : Op) → input_of Lower words ≡ Some op → join_with_byte 32 (codes "in" ∷ words) ≡ op_text op
input_is [] op e = absurd cc
input_is (address ∷ []) op e = absurd cc
input_is (address ∷ octets ∷ more ∷ words) op e = absurd cc
input_is (address ∷ word ∷ []) op e = by (octet_number address) (event_octets Lower 244 word) refl refl e
  where
    by : (number : Option ℕ) (octets : Option (List ℕ)) → octet_number address ≡ number → event_octets Lower 244 word ≡ octets
        → option_and_then (λ n. option_map (λ items. Input n (record { items = items })) octets) number ≡ Some op
        → codes "in " ++ (address ++ 32 ∷ word) ≡ op_text op
    by None octets first second e = absurd cc
    by (Some number) None first second e = absurd cc
    by (Some number) (Some items) first second e =
        ap (λ (t : List ℕ). codes "in " ++ t) (two_are (decimal number) (octets_text items) address word (octet_is address number first) (octets_are 244 word items second))
        ∙ ap op_text is
      where
        is : Input number (record { items = items }) ≡ op
        is = some_same e

diag_is : (words : List (List ℕ)) (op : Op) → diag_of Lower words ≡ Some op → join_with_byte 32 (codes "diag" ∷ words) ≡ op_text op
diag_is [] op e = absurd cc
diag_is (address ∷ []) op e = absurd cc
diag_is (address ∷ flags ∷ []) op e = absurd cc
diag_is (address ∷ flags ∷ octets ∷ more ∷ words) op e = absurd cc
diag_is (address ∷ flags ∷ word ∷ []) op e = by (octet_number address) (flags_of flags) (event_octets Lower 238 word) refl refl refl e
  where
    by : (number : Option ℕ) (read : Option Flags) (octets : Option (List ℕ)) → octet_number address ≡ number → flags_of flags ≡ read → event_octets Lower 238 word ≡ octets
        → option_and_then (λ n. option_and_then (λ set. option_map (diag_with n set) octets) read) number ≡ Some op
        → codes "diag " ++ (address ++ 32 ∷ (flags ++ 32 ∷ word)) ≡ op_text op
    by None read octets first second third e = absurd cc
    by (Some number) None octets first second third e = absurd cc
    by (Some number) (Some set) None first second third e = absurd cc
    by (Some number) (Some set) (Some items) first second third e =
        ap (λ (t : List ℕ). codes "diag " ++ t)
        (three_are (decimal number) (flags_text set.0 set.1 set.2) (octets_text items) address flags word (octet_is address number first) (flags_are flags set second) (octets_are 238 word items third))
        ∙ ap op_text is
      where
        is : diag_with number set items ≡ op
        is = some_same e

busy_is : (words : List (List ℕ)) (op : Op) → busy_of words ≡ Some op → join_with_byte 32 (codes "busy" ∷ words) ≡ op_text op
busy_is [] op e = absurd cc
busy_is (address ∷ []) op e = absurd cc
busy_is (address ∷ point ∷ []) op e = absurd cc
busy_is (address ∷ point ∷ state ∷ more ∷ words) op e = absurd cc
busy_is (address ∷ point ∷ state ∷ []) op e = by (octet_number address) (point_of point) (on_or_off state) refl refl refl e
  where
    by : (number : Option ℕ) (at : Option (Option ℕ)) (on : Option Bool) → octet_number address ≡ number → point_of point ≡ at → on_or_off state ≡ on
        → option_and_then (λ n. option_and_then (λ p. option_map (Busy n p) on) at) number ≡ Some op
        → codes "busy " ++ (address ++ 32 ∷ (point ++ 32 ∷ state)) ≡ op_text op
    by None at on first second third e = absurd cc
    by (Some number) None on first second third e = absurd cc
    by (Some number) (Some at) None first second third e = absurd cc
    by (Some number) (Some at) (Some on) first second third e =
        ap (λ (t : List ℕ). codes "busy " ++ t)
        (three_are (decimal number) (point_text at) (on_or_off_text on) address point state (octet_is address number first) (point_is point at second) (state_is state on third))
        ∙ ap op_text is
      where
        is : Busy number at on ≡ op
        is = some_same e

tick_is : (words : List (List ℕ)) (op : Op) → tick_of words ≡ Some op → join_with_byte 32 (codes "tick" ∷ words) ≡ op_text op
tick_is [] op e = absurd cc
tick_is (units ∷ more ∷ words) op e = absurd cc
tick_is (units ∷ []) op e = by (number_to 4294967295 units) refl e
  where
    by : (number : Option ℕ) → number_to 4294967295 units ≡ number → option_map Tick number ≡ Some op → codes "tick " ++ units ≡ op_text op
    by None read e = absurd cc
    by (Some number) read e =
        let is : Tick number ≡ op = some_same e in
        ap (λ (t : List ℕ). codes "tick " ++ t) (sym (number_is 4294967295 units number (omega arith) read)) ∙ ap op_text is

halt_is : (words : List (List ℕ)) (op : Op) → halt_of words ≡ Some op → join_with_byte 32 (codes "halt" ∷ words) ≡ op_text op
halt_is [] op e = let is : Halt ≡ op = some_same e in ap op_text is
halt_is (more ∷ words) op e = absurd cc

-- a row of the table of first words: the word is that of this row, or of another row
pub row : (test : Bool) (here others : Option Op) (op : Op) (P : Type 0) → cond test here others ≡ Some op → (test ≡ true → here ≡ Some op → P) → (others ≡ Some op → P) → P
row true here others op P e yes_here elsewhere = yes_here refl e
row false here others op P e yes_here elsewhere = elsewhere e

abbrev pub from_halt : List ℕ → List (List ℕ) → Option Op
from_halt word words = cond (same_text word (codes "halt")) (halt_of words) None

abbrev pub from_tick : List ℕ → List (List ℕ) → Option Op
from_tick word words = cond (same_text word (codes "tick")) (tick_of words) (from_halt word words)

abbrev pub from_busy : List ℕ → List (List ℕ) → Option Op
from_busy word words = cond (same_text word (codes "busy")) (busy_of words) (from_tick word words)

abbrev pub from_diag : List ℕ → List (List ℕ) → Option Op
from_diag word words = cond (same_text word (codes "diag")) (diag_of Lower words) (from_busy word words)

op_is : (words : List (List ℕ)) (op : Op) → op_of_words Lower words ≡ Some op → join_with_byte 32 words ≡ op_text op
op_is [] op e = absurd cc
op_is (word ∷ words) op e =
    row (same_text word (codes "in")) (input_of Lower words) (from_diag word words) op (join_with_byte 32 (word ∷ words) ≡ op_text op) e (λ is here. behind (codes "in") is (input_is words op here)) (λ e.
    row (same_text word (codes "diag")) (diag_of Lower words) (from_busy word words) op (join_with_byte 32 (word ∷ words) ≡ op_text op) e (λ is here. behind (codes "diag") is (diag_is words op here)) (λ e.
    row (same_text word (codes "busy")) (busy_of words) (from_tick word words) op (join_with_byte 32 (word ∷ words) ≡ op_text op) e (λ is here. behind (codes "busy") is (busy_is words op here)) (λ e.
    row (same_text word (codes "tick")) (tick_of words) (from_halt word words) op (join_with_byte 32 (word ∷ words) ≡ op_text op) e (λ is here. behind (codes "tick") is (tick_is words op here)) (λ e.
    row (same_text word (codes "halt")) (halt_of words) None op (join_with_byte 32 (word ∷ words) ≡ op_text op) e (λ is here. behind (codes "halt") is (halt_is words op here)) (λ e. absurd cc)))))
  where
    behind : (kind : List ℕ) → same_text word kind ≡ true → join_with_byte 32 (kind ∷ words) ≡ op_text op → join_with_byte 32 (word ∷ words) ≡ op_text op
    behind kind is text = ap (λ w. join_with_byte 32 (w ∷ words)) (same_is word kind is) ∙ text

-- ---- events

request_is : (words : List (List ℕ)) (event : Event) → request_of words ≡ Some event → join_with_byte 32 (codes "req" ∷ words) ≡ event_text event
request_is [] event e = absurd cc
request_is (master ∷ []) event e = absurd cc
request_is (master ∷ octets ∷ more ∷ words) event e = absurd cc
request_is (master ∷ word ∷ []) event e = by (octet_number master) (event_octets Lower 255 word) refl refl e
  where
    by : (number : Option ℕ) (octets : Option (List ℕ)) → octet_number master ≡ number → event_octets Lower 255 word ≡ octets
        → option_and_then (λ n. option_map (λ items. Request n (record { items = items })) octets) number ≡ Some event
        → codes "req " ++ (master ++ 32 ∷ word) ≡ event_text event
    by None octets first second e = absurd cc
    by (Some number) None first second e = absurd cc
    by (Some number) (Some items) first second e =
        ap (λ (t : List ℕ). codes "req " ++ t) (two_are (decimal number) (octets_text items) master word (octet_is master number first) (octets_are 255 word items second))
        ∙ ap event_text is
      where
        is : Request number (record { items = items }) ≡ event
        is = some_same e

operator_is : (words : List (List ℕ)) (read : Option Op) (event : Event) → op_of_words Lower words ≡ read → option_map Operator read ≡ Some event → join_with_byte 32 words ≡ event_text event
operator_is words None event read e = absurd cc
operator_is words (Some op) event read e =
    let is : Operator op ≡ event = some_same e in
    op_is words op read ∙ ap event_text is

words_are : (words : List (List ℕ)) (event : Event) → event_of_words words ≡ Some event → join_with_byte 32 words ≡ event_text event
words_are [] event e = absurd cc
words_are (word ∷ words) event e = elim (cases_Bool (same_text word (codes "req"))) [
  | inl is ↦
      ap (λ w. join_with_byte 32 (w ∷ words)) (same_is word (codes "req") is)
      ∙ request_is words event (sym (cond-true (same_text word (codes "req")) (request_of words) (option_map Operator (op_of_words Lower (word ∷ words))) is) ∙ e)
  | inr other ↦
      operator_is (word ∷ words) (op_of_words Lower (word ∷ words)) event refl
      (sym (cond-false (same_text word (codes "req")) (request_of words) (option_map Operator (op_of_words Lower (word ∷ words))) other) ∙ e)
]

pub event_is : (text : List ℕ) (event : Event) → event_of text ≡ Some event → event_text event ≡ text
event_is text event e = sym (words_are (words_of text) event e) ∙ join_with_byte-slice_split 32 text
