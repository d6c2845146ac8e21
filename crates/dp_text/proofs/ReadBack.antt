-- What is written is read back.
use Rattle.std.proofs.Common.{◌≡◌, ℕ, zero, suc, ◌/◌, ◌%◌, ◌^◌, ◌≤◌, ◌<◌, ◌==◌, eqb, leb, Bool, true, false, not, ◌&&◌, ◌||◌, cond, List, [], ◌∷◌, ◌++◌, length, get_or, Option, Some, None, inl, inr, refl, ap, ◌∙◌, append_assoc, codes, lit<, arith}
use Rattle.std.specs.Prelude.{slice_index, option_map, option_and_then, nat_eq, All, IfSome}
use Rattle.std.specs.List.{list_any}
use Rattle.std.specs.Cmp.Lexicographic.{pointwise}
use Rattle.std.specs.Fmt.{decimal}
use Rattle.std.specs.Char.{is_ascii_uppercase}
use Rattle.std.specs.Str.{all_ascii_digits}
use Rattle.std.specs.Str.Parse.{digits_value}
use Rattle.std.specs.Result.{result_ok}
use Rattle.std.proofs.lemmas.Bool.{cases_Bool, cases_eq, eqb-true, and_parts, not-true, cond-true, cond-false, ne_eqb, le-leb}
use Rattle.std.proofs.lemmas.Fmt.{decimal_digit, digits_decimal, digits_value-decimal, decimal_nonempty, first_decimal}
use Rattle.std.proofs.lemmas.Str.Parse.{IsNumeralModel, numerals_by_value, tells_all_ascii_digits, not_in_digits}
use Rattle.std.proofs.lemmas.List.Elements.{All-nil, All-cons}
use Rattle.std.proofs.lemmas.List.{get_or_default}
use Rattle.std.proofs.lemmas.List.Splits.{slice_split_at, slice_split_none}
use Rattle.hex.specs.Hex.{IsBytes, encode_lower, encode_with, lower_digits, decode_of}
use Rattle.hex.proofs.HexLemmas.{decode_of-encode_lower, length-encode_with}
use Rattle.dp_text.specs.Numbers.{number_to, octet_number}
use Rattle.dp_text.specs.Words.{words_of, same_text}
use Rattle.dp_text.specs.Texts.{octets_text, flags_text, point_text, on_or_off_text, op_text, event_text}
use Rattle.dp_text.specs.Events.{diag_with, octets_within, octets_up_to, event_octets, flags_of, on_or_off, point_of, input_of, diag_of, busy_of, tick_of, op_of_words, request_of, event_of_words, event_of, AreOctets, IsOpWithinLimits, IsWithinLimits}
use Rattle.arrayvec.specs.ArrayVec.{ArrayVec}
use Rattle.dp_line.specs.declared.event.Event.{Event}
use Rattle.dp_line.specs.declared.event.Event.TheVariants.{Request, Operator}
use Rattle.dp_line.specs.declared.event.Op.{Op}
use Rattle.dp_line.specs.declared.event.Op.TheVariants.{Input, Diag, Busy, Tick, Halt}
use Rattle.dp_text.specs.declared.ops.HexCase.TheVariants.{Lower}

pub own : IsNumeralModel (λ ds. all_ascii_digits ds ≡ true) (digits_value 10)
own = numerals_by_value (λ ds. all_ascii_digits ds ≡ true) tells_all_ascii_digits

-- ---- numbers

number_by : (digits empty one nought small : Bool) (value : ℕ) → digits ≡ true → empty ≡ false → (one || not nought) ≡ true → small ≡ true
    → cond (digits && not empty && (one || not nought) && small) (Some value) None ≡ Some value
number_by digits empty one nought small value a b c d = rw (a, b, c, d) refl

no_leading_zero : (number : ℕ) → number < 2 ^ 64 → (eqb (length (decimal number)) 1 || not (eqb (get_or (decimal number) 0 0) 48)) ≡ true
no_leading_zero number small = elim (cases_eq number 0) [
  | inl none ↦ rw (none, decimal_digit 0 (lit< tt)) refl
  | inr some ↦
      let first = first_decimal number (omega (arith, some)) small in
      let other : eqb (get_or (decimal number) 0 0) 48 ≡ false = ne_eqb (get_or (decimal number) 0 0) 48 (λ e. omega (arith, first, e)) in
      grind (arith, other)
]

pub number_read : (number most : ℕ) → number < 2 ^ 64 → number ≤ most → number_to most (decimal number) ≡ Some number
number_read number most small within =
    let value = digits_value-decimal own number small in
    let filled = decimal_nonempty number small in
    number_by (all_ascii_digits (decimal number)) (eqb (length (decimal number)) 0) (eqb (length (decimal number)) 1) (eqb (get_or (decimal number) 0 0) 48) (leb (digits_value 10 (decimal number)) most)
    (digits_value 10 (decimal number)) (digits_decimal own number small) (ne_eqb (length (decimal number)) 0 (λ e. omega (arith, filled, e))) (no_leading_zero number small)
    (le-leb (digits_value 10 (decimal number)) most (omega (arith, value, within)))
    ∙ ap Some value

-- ---- octets

both : (a b : Bool) → a ≡ true → b ≡ true → (a && b) ≡ true
both a b x y = rw (x, y) refl

neither : (a b : Bool) → a ≡ false → b ≡ false → (a || b) ≡ false
neither a b x y = rw (x, y) refl

pub never : (a : Bool) → (a && false) ≡ false
never true = refl
never false = refl

-- no space, and no capital letter
abbrev pub is_written : ℕ → Bool
is_written octet = not (octet == 32) && not (is_ascii_uppercase octet)

abbrev pub all_written : List ℕ → Bool
all_written [] = true
all_written (octet ∷ octets) = is_written octet && all_written octets

digit_is_written : (table : List ℕ) → all_written table ≡ true → (i : ℕ) → is_written (slice_index table i) ≡ true
digit_is_written [] all i = refl
digit_is_written (digit ∷ table) all zero = (and_parts (is_written digit) (all_written table) all).0
digit_is_written (digit ∷ table) all (suc i) = digit_is_written table (and_parts (is_written digit) (all_written table) all).1 i

hex_is_written : (octets : List ℕ) → all_written (encode_lower octets) ≡ true
unfolding encode_with
hex_is_written [] = refl
hex_is_written (octet ∷ octets) =
    let high = digit_is_written lower_digits refl (octet / 16) in
    let low = digit_is_written lower_digits refl (octet % 16) in
    both (is_written (slice_index lower_digits (octet / 16))) (is_written (slice_index lower_digits (octet % 16)) && all_written (encode_lower octets)) high
    (both (is_written (slice_index lower_digits (octet % 16))) (all_written (encode_lower octets)) low (hex_is_written octets))

pub text_is_written : (octets : List ℕ) → all_written (octets_text octets) ≡ true
text_is_written [] = refl
text_is_written (octet ∷ octets) = hex_is_written (octet ∷ octets)

no_space : (text : List ℕ) → all_written text ≡ true → All (λ octet. (octet == 32) ≡ false) text
no_space [] all = All-nil (λ octet. (octet == 32) ≡ false)
no_space (octet ∷ text) all =
    let (first, others) = and_parts (is_written octet) (all_written text) all in
    All-cons (λ octet. (octet == 32) ≡ false) octet text
    (not-true (octet == 32) (and_parts (not (octet == 32)) (not (is_ascii_uppercase octet)) first).0) (no_space text others)

no_capital : (text : List ℕ) → all_written text ≡ true → list_any is_ascii_uppercase text ≡ false
no_capital [] all = refl
no_capital (octet ∷ text) all =
    let (first, others) = and_parts (is_written octet) (all_written text) all in
    neither (is_ascii_uppercase octet) (list_any is_ascii_uppercase text)
    (not-true (is_ascii_uppercase octet) (and_parts (not (octet == 32)) (not (is_ascii_uppercase octet)) first).1) (no_capital text others)

is_no_dash : (octet : ℕ) (octets : List ℕ) → same_text (encode_lower (octet ∷ octets)) (codes "-") ≡ false
unfolding encode_with
is_no_dash octet octets = never (slice_index lower_digits (octet / 16) == 45)

digits_read : (most octet : ℕ) (octets : List ℕ) → length (octet ∷ octets) ≤ most → IsBytes (octet ∷ octets) → octets_up_to most (encode_lower (octet ∷ octets)) ≡ Some (octet ∷ octets)
digits_read most octet octets few bytes =
    let word = encode_lower (octet ∷ octets) in
    let twice = length-encode_with lower_digits (octet ∷ octets) in
    let filled : eqb (length word) 0 ≡ false = ne_eqb (length word) 0 (λ none. omega (arith, twice, none)) in
    ap (option_and_then (octets_within most)) (cond-false (length word == 0) None (result_ok (decode_of word)) filled ∙ ap result_ok (decode_of-encode_lower (octet ∷ octets) bytes))
    ∙ cond-true (leb (length (octet ∷ octets)) most) (Some (octet ∷ octets)) None (le-leb (length (octet ∷ octets)) most few)

pub octets_read : (most : ℕ) (octets : List ℕ) → AreOctets most octets → event_octets Lower most (octets_text octets) ≡ Some octets
octets_read most [] are = refl
octets_read most (octet ∷ octets) are =
    let word = encode_lower (octet ∷ octets) in
    cond-false (same_text word (codes "-")) (Some []) (cond (list_any is_ascii_uppercase word) None (octets_up_to most word)) (is_no_dash octet octets)
    ∙ cond-false (list_any is_ascii_uppercase word) None (octets_up_to most word) (no_capital word (hex_is_written (octet ∷ octets)))
    ∙ digits_read most octet octets are.0 are.1

-- ---- flags, points and states

pub flags_are_written : (ext stat overflow : Bool) → all_written (flags_text ext stat overflow) ≡ true
flags_are_written false false false = refl
flags_are_written false false true = refl
flags_are_written false true false = refl
flags_are_written false true true = refl
flags_are_written true false false = refl
flags_are_written true false true = refl
flags_are_written true true false = refl
flags_are_written true true true = refl

pub flags_read : (ext stat overflow : Bool) → flags_of (flags_text ext stat overflow) ≡ Some (ext, stat, overflow)
flags_read false false false = refl
flags_read false false true = refl
flags_read false true false = refl
flags_read false true true = refl
flags_read true false false = refl
flags_read true false true = refl
flags_read true true false = refl
flags_read true true true = refl

state_is_written : (on : Bool) → all_written (on_or_off_text on) ≡ true
state_is_written true = refl
state_is_written false = refl

state_read : (on : Bool) → on_or_off (on_or_off_text on) ≡ Some on
state_read true = refl
state_read false = refl

pub same_is : (xs ys : List ℕ) → same_text xs ys ≡ true → xs ≡ ys
same_is [] [] e = refl
same_is [] (y ∷ ys) e = absurd cc
same_is (x ∷ xs) [] e = absurd cc
same_is (x ∷ xs) (y ∷ ys) e =
    let (first, others) = and_parts (nat_eq x y) (pointwise nat_eq xs ys) e in
    ap (λ z. z ∷ xs) (eqb-true x y first) ∙ ap (λ zs. y ∷ zs) (same_is xs ys others)

-- a number does not begin with a letter
is_no_name : (number : ℕ) → number < 2 ^ 64 → same_text (decimal number) (codes "default") ≡ false
is_no_name number small = elim (cases_Bool (same_text (decimal number) (codes "default"))) [
  | inl same ↦
      let filled = decimal_nonempty number small in
      let other = not_in_digits own (decimal number) 100 (digits_decimal own number small) (λ range. omega (arith, range)) 0 (omega (arith, filled)) in
      absurd (other (ap (λ text. get_or text 0 0) (same_is (decimal number) (codes "default") same)))
  | inr other ↦ other
]

point_read : (point : Option ℕ) → IfSome point (λ number. number < 256) → point_of (point_text point) ≡ Some point
point_read None small = refl
point_read (Some number) small =
    cond-false (same_text (decimal number) (codes "default")) (Some None) (option_map Some (octet_number (decimal number))) (is_no_name number (omega arith))
    ∙ ap (option_map Some) (number_read number 255 (omega arith) (omega arith))

-- ---- words

unfoldable pub IsWord : List ℕ → Type 0
IsWord word = All (λ octet. (octet == 32) ≡ false) word

pub number_is_word : (number : ℕ) → number < 2 ^ 64 → IsWord (decimal number)
unfolding IsWord
number_is_word number small = λ k d within.
    let other = not_in_digits own (decimal number) 32 (digits_decimal own number small) (λ range. omega (arith, range)) k within in
    ne_eqb (get_or (decimal number) k d) 32 (λ e. other (get_or_default (decimal number) k 0 d within ∙ e))

pub written_is_word : (word : List ℕ) → all_written word ≡ true → IsWord word
unfolding IsWord
written_is_word word all = no_space word all

point_is_word : (point : Option ℕ) → IfSome point (λ number. number < 256) → IsWord (point_text point)
point_is_word None small = written_is_word (codes "default") refl
point_is_word (Some number) small = number_is_word number (omega arith)

pub last_word : (word : List ℕ) → IsWord word → words_of word ≡ word ∷ []
unfolding IsWord
last_word word is = slice_split_none (λ octet. octet == 32) word is

pub next_word : (word rest : List ℕ) → IsWord word → words_of (word ++ 32 ∷ rest) ≡ word ∷ words_of rest
unfolding IsWord
next_word word rest is = slice_split_at (λ octet. octet == 32) word 32 rest is refl

pub two_joined : (a b : List ℕ) → (a ++ 32 ∷ []) ++ b ≡ a ++ 32 ∷ b
two_joined a b = append_assoc a (32 ∷ []) b

pub three_joined : (a b c : List ℕ) → (((a ++ 32 ∷ []) ++ b) ++ 32 ∷ []) ++ c ≡ a ++ 32 ∷ (b ++ 32 ∷ c)
three_joined a b c = two_joined ((a ++ 32 ∷ []) ++ b) c ∙ append_assoc (a ++ 32 ∷ []) b (32 ∷ c) ∙ two_joined a (b ++ 32 ∷ c)

pub two_words : (a b : List ℕ) → IsWord a → IsWord b → words_of ((a ++ 32 ∷ []) ++ b) ≡ a ∷ b ∷ []
two_words a b first second =
    ap words_of (two_joined a b) ∙ next_word a b first ∙ ap (λ words. a ∷ words) (last_word b second)

pub three_words : (a b c : List ℕ) → IsWord a → IsWord b → IsWord c → words_of ((((a ++ 32 ∷ []) ++ b) ++ 32 ∷ []) ++ c) ≡ a ∷ b ∷ c ∷ []
three_words a b c first second third =
    ap words_of (three_joined a b c) ∙ next_word a (b ++ 32 ∷ c) first
    ∙ ap (λ words. a ∷ words) (next_word b c second ∙ ap (λ words. b ∷ words) (last_word c third))

octets_are_word : (octets : List ℕ) → IsWord (octets_text octets)
octets_are_word octets = written_is_word (octets_text octets) (text_is_written octets)

-- ---- events

request_read : (master : ℕ) (octets : ArrayVec ℕ) → master < 256 → AreOctets 255 octets.items
    → request_of (words_of ((decimal master ++ 32 ∷ []) ++ octets_text octets.items)) ≡ Some (Request master octets)
request_read master octets small are =
    ap request_of (two_words (decimal master) (octets_text octets.items) (number_is_word master (omega arith)) (octets_are_word octets.items))
    ∙ ap (option_and_then (λ number. option_map (λ items. Request number (record { items = items })) (event_octets Lower 255 (octets_text octets.items)))) (number_read master 255 (omega arith) (omega arith))
    ∙ ap (option_map (λ items. Request master (record { items = items }))) (octets_read 255 octets.items are)

input_read : (address : ℕ) (octets : ArrayVec ℕ) → address < 256 → AreOctets 244 octets.items
    → input_of Lower (words_of ((decimal address ++ 32 ∷ []) ++ octets_text octets.items)) ≡ Some (Input address octets)
input_read address octets small are =
    ap (input_of Lower) (two_words (decimal address) (octets_text octets.items) (number_is_word address (omega arith)) (octets_are_word octets.items))
    ∙ ap (option_and_then (λ number. option_map (λ items. Input number (record { items = items })) (event_octets Lower 244 (octets_text octets.items)))) (number_read address 255 (omega arith) (omega arith))
    ∙ ap (option_map (λ items. Input address (record { items = items }))) (octets_read 244 octets.items are)

diag_read : (address : ℕ) (ext stat overflow : Bool) (octets : ArrayVec ℕ) → address < 256 → AreOctets 238 octets.items
    → diag_of Lower (words_of ((((decimal address ++ 32 ∷ []) ++ flags_text ext stat overflow) ++ 32 ∷ []) ++ octets_text octets.items)) ≡ Some (Diag address ext stat overflow octets)
diag_read address ext stat overflow octets small are =
    ap (diag_of Lower) (three_words (decimal address) (flags_text ext stat overflow) (octets_text octets.items) (number_is_word address (omega arith)) (written_is_word (flags_text ext stat overflow) (flags_are_written ext stat overflow)) (octets_are_word octets.items))
    ∙ ap (option_and_then (λ number. option_and_then (λ set. option_map (diag_with number set) (event_octets Lower 238 (octets_text octets.items))) (flags_of (flags_text ext stat overflow)))) (number_read address 255 (omega arith) (omega arith))
    ∙ ap (option_and_then (λ set. option_map (diag_with address set) (event_octets Lower 238 (octets_text octets.items)))) (flags_read ext stat overflow)
    ∙ ap (option_map (diag_with address (ext, stat, overflow))) (octets_read 238 octets.items are)

pub busy_read : (address : ℕ) (point : Option ℕ) (on : Bool) → address < 256 → IfSome point (λ number. number < 256)
    → busy_of (words_of ((((decimal address ++ 32 ∷ []) ++ point_text point) ++ 32 ∷ []) ++ on_or_off_text on)) ≡ Some (Busy address point on)
busy_read address point on small known =
    ap busy_of (three_words (decimal address) (point_text point) (on_or_off_text on) (number_is_word address (omega arith)) (point_is_word point known) (written_is_word (on_or_off_text on) (state_is_written on)))
    ∙ ap (option_and_then (λ number. option_and_then (λ at. option_map (Busy number at) (on_or_off (on_or_off_text on))) (point_of (point_text point)))) (number_read address 255 (omega arith) (omega arith))
    ∙ ap (option_and_then (λ at. option_map (Busy address at) (on_or_off (on_or_off_text on)))) (point_read point known)
    ∙ ap (option_map (Busy address point)) (state_read on)

pub tick_read : (units : ℕ) → units < 4294967296 → tick_of (words_of (decimal units)) ≡ Some (Tick units)
tick_read units small =
    ap tick_of (last_word (decimal units) (number_is_word units (omega arith)))
    ∙ ap (option_map Tick) (number_read units 4294967295 (omega arith) (omega arith))

op_read : (op : Op) → IsOpWithinLimits op → op_of_words Lower (words_of (op_text op)) ≡ Some op
op_read (Input address octets) limits = input_read address octets limits.0 limits.1
op_read (Diag address ext stat overflow octets) limits = diag_read address ext stat overflow octets limits.0 limits.1
op_read (Busy address point on) limits = busy_read address point on limits.0 limits.1
op_read (Tick units) limits = tick_read units limits
op_read Halt limits = refl

-- the text of an operator's event does not begin with `req`
by_operator : (op : Op) → event_of_words (words_of (op_text op)) ≡ option_map Operator (op_of_words Lower (words_of (op_text op)))
by_operator (Input address octets) = refl
by_operator (Diag address ext stat overflow octets) = refl
by_operator (Busy address point on) = refl
by_operator (Tick units) = refl
by_operator Halt = refl

pub event_read : (event : Event) → IsWithinLimits event → event_of (event_text event) ≡ Some event
event_read (Request master octets) limits = request_read master octets limits.0 limits.1
event_read (Operator op) limits = by_operator op ∙ ap (option_map Operator) (op_read op limits)
