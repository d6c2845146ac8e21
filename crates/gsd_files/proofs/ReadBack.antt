-- What is written in a GSD file is read back.
use Rattle.std.proofs.Common.{◌≡◌, ℕ, ◌+◌, ◌*◌, ◌/◌, ◌%◌, ◌≤◌, ◌<◌, ◌==◌, Bool, true, false, ◌&&◌, ◌||◌, cond, List, [], ◌∷◌, ◌++◌, length, Option, Some, None, Ok, refl, sym, ap, ◌∙◌, append_assoc, codes, arith}
use Rattle.std.specs.Prelude.{All, Result}
use Rattle.std.specs.List.{slice_split}
use Rattle.std.specs.Fmt.{decimal, digit_glyph}
use Rattle.std.proofs.lemmas.Bool.Decides.{nat_tests}
use Rattle.std.proofs.lemmas.Fmt.{decimal_by_steps}
use Rattle.std.proofs.lemmas.List.Elements.{All-nil, All-cons}
use Rattle.std.proofs.lemmas.List.Splits.{slice_split_at, slice_split_none}
use Rattle.gsd_files.specs.Steps.{◌>>=◌}
use Rattle.gsd_files.specs.declared.cause.Cause.{Cause}
use Rattle.gsd_files.specs.Values.{digit_of, with_digit, with_digits, digits_number, has_hex_mark, number_of, is_separator, with_octets, with_words, with_word, with_octet_more}
use Rattle.gsd_files.specs.GsdText.{hex_2}

-- ---- hex digits

hex_digit : (digit : ℕ) → digit < 16 → digit_of 16 (digit_glyph true digit) ≡ Some digit
hex_digit digit small = grind (arith, nat_tests)

hex_plain : (digit : ℕ) → digit < 16 → is_separator (digit_glyph true digit) ≡ false
hex_plain digit small = grind (arith, nat_tests)

one_digit_more : (base number digit : ℕ) → number * base + digit ≤ 4294967295 → with_digit base number (Some digit) ≡ Some (number * base + digit)
one_digit_more base number digit within = grind (arith, nat_tests)

two_digits : (x y a b : ℕ) → a < 16 → b < 16 → digit_of 16 x ≡ Some a → digit_of 16 y ≡ Some b
    → with_digits 16 (Some 0) (x ∷ y ∷ []) ≡ Some ((0 * 16 + a) * 16 + b)
two_digits x y a b small_a small_b first second =
    ap (λ (d : Option ℕ). with_digits 16 (with_digit 16 0 d) (y ∷ [])) first
    ∙ ap (λ (n : Option ℕ). with_digits 16 n (y ∷ [])) (one_digit_more 16 0 a (omega arith))
    ∙ ap (λ (d : Option ℕ). with_digit 16 (0 * 16 + a) d) second
    ∙ one_digit_more 16 (0 * 16 + a) b (omega arith)

-- an octet is read from its two hex digits
octet_read : (octet : ℕ) → octet < 256 → number_of (codes "0x" ++ hex_2 octet) ≡ Some octet
unfolding hex_2
octet_read octet small =
    let value : (0 * 16 + octet / 16 % 16) * 16 + octet % 16 ≡ octet = omega arith in
    two_digits (digit_glyph true (octet / 16 % 16)) (digit_glyph true (octet % 16)) (octet / 16 % 16) (octet % 16) (omega arith) (omega arith)
    (hex_digit (octet / 16 % 16) (omega arith)) (hex_digit (octet % 16) (omega arith))
    ∙ ap (λ (n : ℕ). Some n) value

-- ---- octets

octet_added : (before : List ℕ) (octet : ℕ) → octet < 256 → length before < 244 → with_octet_more before (Some octet) ≡ Ok (before ++ octet ∷ [])
octet_added before octet small room = grind (arith, nat_tests)

pub word_read : (before : List ℕ) (octet : ℕ) → octet < 256 → length before < 244
    → with_word before (codes "0x" ++ hex_2 octet) ≡ Ok (before ++ octet ∷ [])
unfolding hex_2
word_read before octet small room = ap (with_octet_more before) (octet_read octet small) ∙ octet_added before octet small room

plain_4 : (g h : ℕ) → is_separator g ≡ false → is_separator h ≡ false → All (λ x. is_separator x ≡ false) (48 ∷ 120 ∷ g ∷ h ∷ [])
plain_4 g h p q =
    let P : ℕ → Type 0 = λ x. is_separator x ≡ false in
    All-cons P 48 (120 ∷ g ∷ h ∷ []) refl (All-cons P 120 (g ∷ h ∷ []) refl (All-cons P g (h ∷ []) p (All-cons P h [] q (All-nil P))))

plain : (octet : ℕ) → octet < 256 → All (λ x. is_separator x ≡ false) (codes "0x" ++ hex_2 octet)
unfolding hex_2
plain octet small =
    plain_4 (digit_glyph true (octet / 16 % 16)) (digit_glyph true (octet % 16)) (hex_plain (octet / 16 % 16) (omega arith)) (hex_plain (octet % 16) (omega arith))

pub first_words : (octet : ℕ) (rest : List ℕ) → octet < 256
    → slice_split is_separator (codes "0x" ++ (hex_2 octet ++ (codes "," ++ rest))) ≡ (codes "0x" ++ hex_2 octet) ∷ slice_split is_separator rest
first_words octet rest small =
    ap (slice_split is_separator) (sym (append_assoc (codes "0x") (hex_2 octet) (codes "," ++ rest)))
    ∙ slice_split_at is_separator (codes "0x" ++ hex_2 octet) 44 rest (plain octet small) refl

-- the last octet of a text
pub octet_read_last : (before : List ℕ) (octet : ℕ) → octet < 256 → length before < 244 → with_octets before (codes "0x" ++ hex_2 octet) ≡ Ok (before ++ octet ∷ [])
octet_read_last before octet small room =
    ap (with_words before) (slice_split_none is_separator (codes "0x" ++ hex_2 octet) (plain octet small))
    ∙ ap (λ (r : Result (List ℕ) Cause). r >>= λ more. with_words more []) (word_read before octet small room)

-- ---- decimal numbers

digit_10 : (digit : ℕ) → digit < 10 → digit_of 10 (48 + digit) ≡ Some digit
digit_10 digit small = grind (arith, nat_tests)

-- digits and one more, read from left to right
pub digits_behind : (base : ℕ) (number : Option ℕ) (front : List ℕ) (last : ℕ)
    → with_digits base number (front ++ last ∷ []) ≡ with_digits base (with_digits base number front) (last ∷ [])
digits_behind base number [] last = refl
digits_behind base None (octet ∷ front) last = none_stays base front last
  where
    none_stays : (base : ℕ) (front : List ℕ) (last : ℕ) → with_digits base None (octet ∷ front ++ last ∷ []) ≡ with_digits base (with_digits base None (octet ∷ front)) (last ∷ [])
    none_stays base front last = refl
digits_behind base (Some number) (octet ∷ front) last = digits_behind base (with_digit base number (digit_of base octet)) front last

first_digit : (n : ℕ) → n < 10 → n ≤ 4294967295 → with_digits 10 (Some 0) ((48 + n) ∷ []) ≡ Some n
first_digit n small within =
    let value : 0 * 10 + n ≡ n = omega arith in
    ap (with_digit 10 0) (digit_10 n small) ∙ one_digit_more 10 0 n (omega arith) ∙ ap (λ (k : ℕ). Some k) value

next_digit : (n : ℕ) (front : List ℕ) → 10 ≤ n → (n / 10 ≤ 4294967295 → with_digits 10 (Some 0) front ≡ Some (n / 10)) → n ≤ 4294967295
    → with_digits 10 (Some 0) (front ++ (48 + n % 10) ∷ []) ≡ Some n
next_digit n front large before within =
    let value : n / 10 * 10 + n % 10 ≡ n = omega arith in
    digits_behind 10 (Some 0) front (48 + n % 10)
    ∙ ap (λ (k : Option ℕ). with_digits 10 k ((48 + n % 10) ∷ [])) (before (omega arith))
    ∙ ap (with_digit 10 (n / 10)) (digit_10 (n % 10) (omega arith))
    ∙ one_digit_more 10 (n / 10) (n % 10) (omega arith)
    ∙ ap (λ (k : ℕ). Some k) value

-- the digits of a number are read as the number
pub decimal_read : (n : ℕ) → n ≤ 4294967295 → with_digits 10 (Some 0) (decimal n) ≡ Some n
decimal_read n within =
    decimal_by_steps (λ m digits. m ≤ 4294967295 → with_digits 10 (Some 0) digits ≡ Some m) first_digit next_digit n (omega arith) within

second_is_no_mark : (a : Bool) (digit : ℕ) → digit < 10 → (a && ((48 + digit) == 120 || (48 + digit) == 88)) ≡ false
second_is_no_mark a digit small = grind (arith, nat_tests)

no_mark : (front : List ℕ) (digit : ℕ) → digit < 10 → has_hex_mark front ≡ false → has_hex_mark (front ++ (48 + digit) ∷ []) ≡ false
no_mark [] digit small e = refl
no_mark (a ∷ []) digit small e = second_is_no_mark (a == 48) digit small
no_mark (a ∷ b ∷ front) digit small e = e

has_no_mark : (n : ℕ) → n ≤ 4294967295 → has_hex_mark (decimal n) ≡ false
has_no_mark n within =
    decimal_by_steps (λ m digits. has_hex_mark digits ≡ false) (λ m small. refl) (λ m front large e. no_mark front (m % 10) (omega arith) e) n (omega arith)

some_digits : (front : List ℕ) (last : ℕ) → digits_number 10 (front ++ last ∷ []) ≡ with_digits 10 (Some 0) (front ++ last ∷ [])
some_digits [] last = refl
some_digits (a ∷ front) last = refl

are_digits : (n : ℕ) → n ≤ 4294967295 → digits_number 10 (decimal n) ≡ with_digits 10 (Some 0) (decimal n)
are_digits n within =
    decimal_by_steps (λ m digits. digits_number 10 digits ≡ with_digits 10 (Some 0) digits) (λ m small. refl)
    (λ m front large e. some_digits front (48 + m % 10)) n (omega arith)

by_mark : (marked : Bool) (hex plain : Option ℕ) → marked ≡ false → cond marked hex plain ≡ plain
by_mark true hex plain e = absurd cc
by_mark false hex plain e = refl

-- a number up to 1,000,000 is read from its decimal text
pub number_read : (n : ℕ) → n ≤ 4294967295 → number_of (decimal n) ≡ Some n
number_read n within = by_mark (has_hex_mark (decimal n)) _ _ (has_no_mark n within) ∙ are_digits n within ∙ decimal_read n within
