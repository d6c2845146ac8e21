-- Hex digits in either case are read as in lower case.
use Rattle.std.proofs.Common.{◌≡◌, ℕ, ◌+◌, ◌%◌, ◌<◌, ◌==◌, eqb, Bool, true, false, not, ◌&&◌, cond, List, [], ◌∷◌, length, map, All, Option, Some, None, Result, Ok, Err, refl, sym, ap, ◌∙◌, codes, arith}
use Rattle.std.specs.Prelude.{option_and_then, nat_eq}
use Rattle.std.specs.List.{list_any}
use Rattle.std.specs.Char.{is_ascii_uppercase, to_ascii_lowercase}
use Rattle.std.specs.Result.{result_ok}
use Rattle.std.proofs.lemmas.Bool.{and_parts, not-true}
use Rattle.std.proofs.lemmas.Bool.Decides.{nat_tests}
use Rattle.std.proofs.lemmas.List.{length-map}
use Rattle.std.proofs.lemmas.List.Elements.{All-nil, All-cons}
use Rattle.hex.specs.Hex.{decode_of, decode_pairs, pair_value, value_at, digit_or_error, hex_digit_value, ◌>>=◌}
use Rattle.hex.specs.declared.error.FromHexError.{FromHexError}
use Rattle.hex.specs.declared.error.FromHexError.TheVariants.{OddLength}
use Rattle.dp_text.specs.declared.ops.HexCase.TheVariants.{Lower, Either}
use Rattle.dp_text.specs.Words.{same_text}
use Rattle.dp_text.specs.HexWords.{octets_of_word}
use Rattle.dp_text.specs.Texts.{octets_text}
use Rattle.dp_text.specs.Events.{octets_within, octets_up_to, event_octets}
use Rattle.dp_text.proofs.ReadBack.{is_written, all_written, text_is_written, never}

-- ---- digits

-- in lower case an octet has a value below 65 exactly if it has that value before
lower_keeps : (digit value : ℕ) → value < 65 → eqb (to_ascii_lowercase digit) value ≡ eqb digit value
lower_keeps digit value small = grind (arith, nat_tests)

lower_is_lower : (digit : ℕ) → is_ascii_uppercase (to_ascii_lowercase digit) ≡ false
lower_is_lower digit = grind (arith, nat_tests)

lower_value : (digit : ℕ) → hex_digit_value (to_ascii_lowercase digit) ≡ hex_digit_value digit
lower_value digit = grind (arith, nat_tests)

-- ---- the octets of a word

ok_digit : (digit i : ℕ) (read : Option ℕ) → result_ok (digit_or_error digit i read) ≡ read
ok_digit digit i (Some value) = refl
ok_digit digit i None = refl

same_value : (digit i : ℕ) → result_ok (value_at (to_ascii_lowercase digit) i) ≡ result_ok (value_at digit i)
same_value digit i =
    ok_digit (to_ascii_lowercase digit) i (hex_digit_value (to_ascii_lowercase digit)) ∙ lower_value digit ∙ sym (ok_digit digit i (hex_digit_value digit))

same_bind : {A B : Type 0} (r s : Result A FromHexError) (f g : A → Result B FromHexError) → result_ok r ≡ result_ok s → ((x : A) → result_ok (f x) ≡ result_ok (g x))
    → result_ok (r >>= f) ≡ result_ok (s >>= g)
same_bind (Ok x) (Ok y) f g same each = let e : x ≡ y = cc in each x ∙ ap (λ z. result_ok (g z)) e
same_bind (Ok x) (Err b) f g same each = absurd cc
same_bind (Err a) (Ok y) f g same each = absurd cc
same_bind (Err a) (Err b) f g same each = refl

same_pair : (high low i : ℕ) → result_ok (pair_value (to_ascii_lowercase high) (to_ascii_lowercase low) i) ≡ result_ok (pair_value high low i)
same_pair high low i =
    same_bind (value_at (to_ascii_lowercase high) i) (value_at high i) _ _ (same_value high i)
    (λ h. same_bind (value_at (to_ascii_lowercase low) (i + 1)) (value_at low (i + 1)) _ _ (same_value low (i + 1)) (λ l. refl))

same_pairs : (i : ℕ) (word : List ℕ) → result_ok (decode_pairs i (map to_ascii_lowercase word)) ≡ result_ok (decode_pairs i word)
unfolding decode_pairs
same_pairs i [] = refl
same_pairs i (digit ∷ []) = refl
same_pairs i (high ∷ low ∷ word) =
    same_bind (pair_value (to_ascii_lowercase high) (to_ascii_lowercase low) i) (pair_value high low i) _ _ (same_pair high low i)
    (λ octet. same_bind (decode_pairs (i + 2) (map to_ascii_lowercase word)) (decode_pairs (i + 2) word) _ _ (same_pairs (i + 2) word) (λ octets. refl))

same_if : (odd : Bool) (fault : FromHexError) (r s : Result (List ℕ) FromHexError) → result_ok r ≡ result_ok s → result_ok (cond odd (Err fault) r) ≡ result_ok (cond odd (Err fault) s)
same_if true fault r s same = refl
same_if false fault r s same = same

same_octets : (word : List ℕ) → result_ok (decode_of (map to_ascii_lowercase word)) ≡ result_ok (decode_of word)
same_octets word =
    ap (λ count. result_ok (cond (eqb (count % 2) 1) (Err OddLength) (decode_pairs 0 (map to_ascii_lowercase word)))) (length-map word to_ascii_lowercase)
    ∙ same_if (eqb (length word % 2) 1) OddLength (decode_pairs 0 (map to_ascii_lowercase word)) (decode_pairs 0 word) (same_pairs 0 word)

same_word : (word : List ℕ) → octets_of_word (map to_ascii_lowercase word) ≡ octets_of_word word
same_word word =
    ap (λ count. cond (eqb count 0) None (result_ok (decode_of (map to_ascii_lowercase word)))) (length-map word to_ascii_lowercase)
    ∙ ap (cond (eqb (length word) 0) None) (same_octets word)

-- ---- texts of octets

same_dash : (word : List ℕ) → same_text (map to_ascii_lowercase word) (codes "-") ≡ same_text word (codes "-")
same_dash [] = refl
same_dash (digit ∷ []) = ap (λ b. b && true) (lower_keeps digit 45 (omega arith))
same_dash (digit ∷ next ∷ word) = never (nat_eq (to_ascii_lowercase digit) 45) ∙ sym (never (nat_eq digit 45))

no_upper : (word : List ℕ) → list_any is_ascii_uppercase (map to_ascii_lowercase word) ≡ false
no_upper [] = refl
no_upper (digit ∷ word) = rw (lower_is_lower digit, no_upper word) refl

-- octets in either case are those of the same word in lower case
pub either_is_lower : (most : ℕ) (word : List ℕ) → event_octets Either most word ≡ event_octets Lower most (map to_ascii_lowercase word)
either_is_lower most word =
    let lowered = map to_ascii_lowercase word in
    sym (ap (λ b. cond b (Some []) (cond (list_any is_ascii_uppercase lowered) None (octets_up_to most lowered))) (same_dash word)
    ∙ ap (λ b. cond (same_text word (codes "-")) (Some []) (cond b None (octets_up_to most lowered))) (no_upper word)
    ∙ ap (λ read. cond (same_text word (codes "-")) (Some []) (option_and_then (octets_within most) read)) (same_word word))

-- a word of octets has no space
no_space_in : (word : List ℕ) → all_written (map to_ascii_lowercase word) ≡ true → All (λ octet. (octet == 32) ≡ false) word
no_space_in [] all = All-nil (λ octet. (octet == 32) ≡ false)
no_space_in (digit ∷ word) all =
    let (first, others) = and_parts (is_written (to_ascii_lowercase digit)) (all_written (map to_ascii_lowercase word)) all in
    let here = not-true (to_ascii_lowercase digit == 32) (and_parts (not (to_ascii_lowercase digit == 32)) (not (is_ascii_uppercase (to_ascii_lowercase digit))) first).0 in
    All-cons (λ octet. (octet == 32) ≡ false) digit word (sym (lower_keeps digit 32 (omega arith)) ∙ here) (no_space_in word others)

pub octets_word_is_word : (word octets : List ℕ) → map to_ascii_lowercase word ≡ octets_text octets → All (λ octet. (octet == 32) ≡ false) word
octets_word_is_word word octets e = no_space_in word (ap all_written e ∙ text_is_written octets)
