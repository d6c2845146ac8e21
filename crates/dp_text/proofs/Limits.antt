-- What is read is within the limits of texts.
use Rattle.std.proofs.Common.{◌≡◌, ℕ, ◌<◌, ◌≤◌, ◌==◌, leb, Bool, ◌&&◌, cond, List, [], ◌∷◌, length, Option, Some, None, inl, inr, refl, sym, ap, subst, ◌∙◌, codes, arith}
use Rattle.std.specs.Prelude.{option_map, option_and_then, IfSome}
use Rattle.std.specs.List.{list_any}
use Rattle.std.specs.Char.{is_ascii_uppercase}
use Rattle.std.specs.Str.Parse.{digits_value}
use Rattle.std.specs.Result.{result_ok}
use Rattle.std.proofs.lemmas.Bool.{cases_Bool, cases_eq, and_parts, leb-true, eq-eqb, ne_eqb, cond-true, cond-false}
use Rattle.hex.specs.Hex.{IsBytes, decode_of}
use Rattle.hex.proofs.HexLemmas.{decode_of-ok}
use Rattle.dp_line.specs.declared.event.Event.{Event}
use Rattle.dp_line.specs.declared.event.Event.TheVariants.{Request, Operator}
use Rattle.dp_line.specs.declared.event.Op.{Op}
use Rattle.dp_line.specs.declared.event.Op.TheVariants.{Input, Busy, Tick, Halt}
use Rattle.dp_text.specs.declared.ops.HexCase.TheVariants.{Lower}
use Rattle.dp_text.specs.Numbers.{is_plain_decimal, number_to, octet_number}
use Rattle.dp_text.specs.Words.{words_of, same_text}
use Rattle.dp_text.specs.HexWords.{octets_of_word}
use Rattle.dp_text.specs.Events.{Flags, diag_with, octets_within, octets_up_to, event_octets, flags_of, on_or_off, point_of, input_of, diag_of, busy_of, tick_of, halt_of, op_of_words, request_of, event_of_words, event_of, AreOctets, IsOpWithinLimits, IsWithinLimits}
use Rattle.dp_text.proofs.HexSpellings.{ok_part}
use Rattle.dp_text.proofs.ReadExactly.{some_by, some_same, row, from_halt, from_tick, from_busy, from_diag}

-- ---- numbers and octets

pub number_within : (most : ℕ) (word : List ℕ) (number : ℕ) → number_to most word ≡ Some number → number ≤ most
number_within most word number e =
    let (test, is) = some_by (is_plain_decimal word && leb (digits_value 10 word) most) (digits_value 10 word) number e in
    let within = leb-true (digits_value 10 word) most (and_parts (is_plain_decimal word) (leb (digits_value 10 word) most) test).1 in
    omega (arith, is, within)

pub octet_within : (word : List ℕ) (number : ℕ) → octet_number word ≡ Some number → number < 256
octet_within word number e = let within = number_within 255 word number e in omega arith

few : (most : ℕ) (read : Option (List ℕ)) (octets : List ℕ) → option_and_then (octets_within most) read ≡ Some octets → (length octets ≤ most) × (read ≡ Some octets)
few most None octets e = absurd cc
few most (Some items) octets e =
    let (test, is) = some_by (leb (length items) most) items octets e in
    (subst (λ (xs : List ℕ). length xs ≤ most) is (leb-true (length items) most test), ap Some is)

are_bytes : (word octets : List ℕ) → octets_of_word word ≡ Some octets → IsBytes octets
are_bytes word octets e = elim (cases_eq (length word) 0) [
  | inl none ↦ absurd (let o : octets_of_word word ≡ None = cond-true (length word == 0) None (result_ok (decode_of word)) (eq-eqb (length word) 0 none) in cc)
  | inr some ↦
      (decode_of-ok word octets (ok_part (decode_of word) octets (sym (cond-false (length word == 0) None (result_ok (decode_of word)) (ne_eqb (length word) 0 some)) ∙ e))).3
]

no_octets : (most : ℕ) → AreOctets most []
no_octets most = (omega arith, λ i. omega arith)

pub octets_within_limits : (most : ℕ) (word octets : List ℕ) → event_octets Lower most word ≡ Some octets → AreOctets most octets
octets_within_limits most word octets e = elim (cases_Bool (same_text word (codes "-"))) [
  | inl dash ↦
      let none : [] ≡ octets = some_same (sym (cond-true (same_text word (codes "-")) (Some []) (cond (list_any is_ascii_uppercase word) None (octets_up_to most word)) dash) ∙ e) in
      subst (AreOctets most) none (no_octets most)
  | inr other ↦
      let more = sym (cond-false (same_text word (codes "-")) (Some []) (cond (list_any is_ascii_uppercase word) None (octets_up_to most word)) other) ∙ e in
      elim (cases_Bool (list_any is_ascii_uppercase word)) [
        | inl upper ↦ absurd (let o = sym (cond-true (list_any is_ascii_uppercase word) None (octets_up_to most word) upper) ∙ more in cc)
        | inr lower ↦
            let (count, read) = few most (octets_of_word word) octets (sym (cond-false (list_any is_ascii_uppercase word) None (octets_up_to most word) lower) ∙ more) in
            (count, are_bytes word octets read)
      ]
]

pub point_within : (word : List ℕ) (point : Option ℕ) → point_of word ≡ Some point → IfSome point (λ number. number < 256)
point_within word None e = tt
point_within word (Some number) e = elim (cases_Bool (same_text word (codes "default"))) [
  | inl same ↦ absurd (let o = sym (cond-true (same_text word (codes "default")) (Some None) (option_map Some (octet_number word)) same) ∙ e in cc)
  | inr other ↦ by (octet_number word) refl (sym (cond-false (same_text word (codes "default")) (Some None) (option_map Some (octet_number word)) other) ∙ e)
]
  where
    by : (read : Option ℕ) → octet_number word ≡ read → option_map Some read ≡ Some (Some number) → number < 256
    by None read e = absurd cc
    by (Some n) read e = let is : n ≡ number = cc in octet_within word number (read ∙ ap Some is)

-- ---- what an operator does

input_within : (words : List (List ℕ)) (op : Op) → input_of Lower words ≡ Some op → IsOpWithinLimits op
input_within [] op e = absurd cc
input_within (address ∷ []) op e = absurd cc
input_within (address ∷ octets ∷ more ∷ words) op e = absurd cc
input_within (address ∷ word ∷ []) op e = by (octet_number address) (event_octets Lower 244 word) refl refl e
  where
    by : (number : Option ℕ) (octets : Option (List ℕ)) → octet_number address ≡ number → event_octets Lower 244 word ≡ octets
        → option_and_then (λ n. option_map (λ items. Input n (record { items = items })) octets) number ≡ Some op → IsOpWithinLimits op
    by None octets first second e = absurd cc
    by (Some number) None first second e = absurd cc
    by (Some number) (Some items) first second e = subst IsOpWithinLimits is (octet_within address number first, octets_within_limits 244 word items second)
      where
        is : Input number (record { items = items }) ≡ op
        is = some_same e

diag_within : (words : List (List ℕ)) (op : Op) → diag_of Lower words ≡ Some op → IsOpWithinLimits op
diag_within [] op e = absurd cc
diag_within (address ∷ []) op e = absurd cc
diag_within (address ∷ flags ∷ []) op e = absurd cc
diag_within (address ∷ flags ∷ octets ∷ more ∷ words) op e = absurd cc
diag_within (address ∷ flags ∷ word ∷ []) op e = by (octet_number address) (flags_of flags) (event_octets Lower 238 word) refl refl e
  where
    by : (number : Option ℕ) (read : Option Flags) (octets : Option (List ℕ)) → octet_number address ≡ number → event_octets Lower 238 word ≡ octets
        → option_and_then (λ n. option_and_then (λ set. option_map (diag_with n set) octets) read) number ≡ Some op → IsOpWithinLimits op
    by None read octets first second e = absurd cc
    by (Some number) None octets first second e = absurd cc
    by (Some number) (Some set) None first second e = absurd cc
    by (Some number) (Some set) (Some items) first second e = subst IsOpWithinLimits is (octet_within address number first, octets_within_limits 238 word items second)
      where
        is : diag_with number set items ≡ op
        is = some_same e

busy_within : (words : List (List ℕ)) (op : Op) → busy_of words ≡ Some op → IsOpWithinLimits op
busy_within [] op e = absurd cc
busy_within (address ∷ []) op e = absurd cc
busy_within (address ∷ point ∷ []) op e = absurd cc
busy_within (address ∷ point ∷ state ∷ more ∷ words) op e = absurd cc
busy_within (address ∷ point ∷ state ∷ []) op e = by (octet_number address) (point_of point) (on_or_off state) refl refl e
  where
    by : (number : Option ℕ) (at : Option (Option ℕ)) (on : Option Bool) → octet_number address ≡ number → point_of point ≡ at
        → option_and_then (λ n. option_and_then (λ p. option_map (Busy n p) on) at) number ≡ Some op → IsOpWithinLimits op
    by None at on first second e = absurd cc
    by (Some number) None on first second e = absurd cc
    by (Some number) (Some at) None first second e = absurd cc
    by (Some number) (Some at) (Some on) first second e = subst IsOpWithinLimits is (octet_within address number first, point_within point at second)
      where
        is : Busy number at on ≡ op
        is = some_same e

tick_within : (words : List (List ℕ)) (op : Op) → tick_of words ≡ Some op → IsOpWithinLimits op
tick_within [] op e = absurd cc
tick_within (units ∷ more ∷ words) op e = absurd cc
tick_within (units ∷ []) op e = by (number_to 4294967295 units) refl e
  where
    by : (number : Option ℕ) → number_to 4294967295 units ≡ number → option_map Tick number ≡ Some op → IsOpWithinLimits op
    by None read e = absurd cc
    by (Some number) read e =
        let is : Tick number ≡ op = some_same e in
        let within = number_within 4294967295 units number read in
        subst IsOpWithinLimits is (omega arith)

halt_within : (words : List (List ℕ)) (op : Op) → halt_of words ≡ Some op → IsOpWithinLimits op
halt_within [] op e = let is : Halt ≡ op = some_same e in subst IsOpWithinLimits is tt
halt_within (more ∷ words) op e = absurd cc

op_within : (words : List (List ℕ)) (op : Op) → op_of_words Lower words ≡ Some op → IsOpWithinLimits op
op_within [] op e = absurd cc
op_within (word ∷ words) op e =
    row (same_text word (codes "in")) (input_of Lower words) (from_diag word words) op (IsOpWithinLimits op) e (λ is here. input_within words op here) (λ e.
    row (same_text word (codes "diag")) (diag_of Lower words) (from_busy word words) op (IsOpWithinLimits op) e (λ is here. diag_within words op here) (λ e.
    row (same_text word (codes "busy")) (busy_of words) (from_tick word words) op (IsOpWithinLimits op) e (λ is here. busy_within words op here) (λ e.
    row (same_text word (codes "tick")) (tick_of words) (from_halt word words) op (IsOpWithinLimits op) e (λ is here. tick_within words op here) (λ e.
    row (same_text word (codes "halt")) (halt_of words) None op (IsOpWithinLimits op) e (λ is here. halt_within words op here) (λ e. absurd cc)))))

-- ---- events

request_within : (words : List (List ℕ)) (event : Event) → request_of words ≡ Some event → IsWithinLimits event
request_within [] event e = absurd cc
request_within (master ∷ []) event e = absurd cc
request_within (master ∷ octets ∷ more ∷ words) event e = absurd cc
request_within (master ∷ word ∷ []) event e = by (octet_number master) (event_octets Lower 255 word) refl refl e
  where
    by : (number : Option ℕ) (octets : Option (List ℕ)) → octet_number master ≡ number → event_octets Lower 255 word ≡ octets
        → option_and_then (λ n. option_map (λ items. Request n (record { items = items })) octets) number ≡ Some event → IsWithinLimits event
    by None octets first second e = absurd cc
    by (Some number) None first second e = absurd cc
    by (Some number) (Some items) first second e = subst IsWithinLimits is (octet_within master number first, octets_within_limits 255 word items second)
      where
        is : Request number (record { items = items }) ≡ event
        is = some_same e

operator_within : (words : List (List ℕ)) (read : Option Op) (event : Event) → op_of_words Lower words ≡ read → option_map Operator read ≡ Some event → IsWithinLimits event
operator_within words None event read e = absurd cc
operator_within words (Some op) event read e =
    let is : Operator op ≡ event = some_same e in
    subst IsWithinLimits is (op_within words op read)

words_within : (words : List (List ℕ)) (event : Event) → event_of_words words ≡ Some event → IsWithinLimits event
words_within [] event e = absurd cc
words_within (word ∷ words) event e = elim (cases_Bool (same_text word (codes "req"))) [
  | inl is ↦ request_within words event (sym (cond-true (same_text word (codes "req")) (request_of words) (option_map Operator (op_of_words Lower (word ∷ words))) is) ∙ e)
  | inr other ↦
      operator_within (word ∷ words) (op_of_words Lower (word ∷ words)) event refl
      (sym (cond-false (same_text word (codes "req")) (request_of words) (option_map Operator (op_of_words Lower (word ∷ words))) other) ∙ e)
]

pub event_within : (text : List ℕ) (event : Event) → event_of text ≡ Some event → IsWithinLimits event
event_within text event e = words_within (words_of text) event e
