-- Numbers that are read from the names of files.
use Rattle.std.proofs.Common.{◌≡◌, ◌≢◌, ℕ, ◌<◌, ◌≤◌, ◌^◌, List, [], ◌∷◌, ◌++◌, length, get_or, Bool, true, false, cond, Result, Ok, Err, suc, zero, refl, sym, subst, ap, append_assoc, arith, ◌∙◌}
use Rattle.std.specs.Fmt.{decimal}
use Rattle.std.specs.Result.{result_ok}
use Rattle.std.specs.Str.Pattern.{FindsChar, FindsTextPrefix, FindsTextSuffix, StripsPrefix, StripsSuffix}
use Rattle.std.specs.Borrow.{Bor}
use Rattle.std.proofs.lemmas.List.{append_cancel_right}
use Rattle.std.proofs.lemmas.Str.Pattern.{IsSplitOnceResult, split_after, split_parts}
use Rattle.std.specs.Str.Parse.{AllDigits, ParsesUnsigned, digits_value}
use Rattle.std.proofs.lemmas.Str.Parse.{IsNumeralModel, not_in_digits, numerals_by_value, tells_digits, parse_plain, parse_gives}
use Rattle.std.proofs.lemmas.Fmt.{decimal-digits_value, decimal_digit, decimal_injective, decimal_nonempty, digits_decimal, digits_value-decimal, first_decimal, parse-decimal}
use Rattle.std.specs.Int.{IsInRange}
use Rattle.std.specs.Prelude.{⊤, Option, Some, None, codes, drop, nat_lt}
use Rattle.audit_files.specs.AuditPaths.{leading_zeros}
use Rattle.audit_files.specs.AuditNames.{audit_name_text, part_words}
use Rattle.audit_files.specs.ReadNames.{IsFileName, IsFileNumber, IsLineNumber, IsReadFrom, numbers_text, part_digits, text_number_text}
use Rattle.audit_files.specs.declared.audit_name.AuditName.{AuditName}

own : IsNumeralModel (AllDigits 10) (digits_value 10)
own = numerals_by_value (AllDigits 10) tells_digits

-- no number from 1 on begins with a zero
pub not_read : (bs : List ℕ) → get_or bs 0 0 ≤ 48 → (n : ℕ) → IsFileNumber n → bs ≡ decimal n → ⊥
not_read bs low n is e =
    let above = first_decimal n is.0 (omega (arith, is.1)) in
    let here = subst (λ (ds : List ℕ). get_or ds 0 0 ≤ 48) e low in omega (arith, above, here)

-- what is parsed from a text that begins with another digit than zero
pub read : {E : Type 0} (bs : List ℕ) (r : Result ℕ E) → 48 < get_or bs 0 0 → ParsesUnsigned 32 10 bs r → IsReadFrom decimal IsFileNumber bs (result_ok r)
read {E} bs (Ok n) above parsed =
    let fits = parse_plain own {E = E} 32 bs (Ok n) parsed (omega (arith, above)) in
    let small : digits_value 10 bs < 2 ^ 32 = fits.0.2 in
    let same : decimal (digits_value 10 bs) ≡ bs = decimal-digits_value own bs fits.0.0 fits.0.1 (λ zero. absurd (omega (arith, above, zero))) (omega (arith, small)) in
    let written : bs ≡ decimal n = subst (λ (m : ℕ). bs ≡ decimal m) (sym fits.1) (sym same) in
    ((positive n written, subst (λ (m : ℕ). m < 2 ^ 32) (sym fits.1) small), written)
  where
    positive : (m : ℕ) → bs ≡ decimal m → 1 ≤ m
    positive zero e = absurd (omega (arith, subst (λ (ds : List ℕ). 48 < get_or ds 0 0) (e ∙ decimal_digit 0 (omega arith)) above))
    positive (suc m) e = omega arith
read bs (Err e) above parsed = λ n is written.
    let given : Err e ≡ Ok n = parse-decimal 32 n bs (Err e) is.1 (omega (arith, is.1)) written parsed in absurd (grind (arith, given))

abbrev AreZeros : List ℕ → Type 0
AreZeros [] = ⊤
AreZeros (b ∷ bs) = (b ≡ 48) × AreZeros bs

-- zeros in front of digits make no other number
with_zeros : (zeros : List ℕ) → AreZeros zeros → (ds : List ℕ) → AllDigits 10 ds → AllDigits 10 (zeros ++ ds) × (digits_value 10 (zeros ++ ds) ≡ digits_value 10 ds)
with_zeros [] are ds digits = (digits, refl)
with_zeros (b ∷ bs) are ds digits =
    let more = with_zeros bs are.1 ds digits in
    subst (λ (d : ℕ). AllDigits 10 (d ∷ bs ++ ds) × (digits_value 10 (d ∷ bs ++ ds) ≡ digits_value 10 ds)) (sym are.0) ((omega arith, more.0), more.1)

either : (b : Bool) (xs ys : List ℕ) → AreZeros xs → AreZeros ys → AreZeros (cond b xs ys)
either true xs ys x y = x
either false xs ys x y = y

leading_are_zeros : (n : ℕ) → AreZeros (leading_zeros n)
leading_are_zeros n =
    either (nat_lt n 10) (codes "00000") _ (refl, (refl, (refl, (refl, (refl, tt)))))
    (either (nat_lt n 100) (codes "0000") _ (refl, (refl, (refl, (refl, tt))))
    (either (nat_lt n 1000) (codes "000") _ (refl, (refl, (refl, tt)))
    (either (nat_lt n 10000) (codes "00") _ (refl, (refl, tt))
    (either (nat_lt n 100000) (codes "0") _ (refl, tt) tt))))

-- what is parsed from the digits of a part
pub parsed_part : {E : Type 0} (bs : List ℕ) (r : Result ℕ E) → ParsesUnsigned 32 10 bs r → (n : ℕ) → IsFileNumber n → bs ≡ part_digits n → r ≡ Ok n
parsed_part bs r parsed n is written =
    let small : n < 2 ^ 64 = omega (arith, is.1) in
    let digits = with_zeros (leading_zeros n) (leading_are_zeros n) (decimal n) (digits_decimal own n small) in
    let value : digits_value 10 (part_digits n) ≡ n = digits.1 ∙ digits_value-decimal own n small in
    let long : 0 < length (part_digits n) = longer (leading_zeros n) (decimal n) (decimal_nonempty n small) in
    let given = parse_gives own 32 (part_digits n) r (subst (λ (ds : List ℕ). ParsesUnsigned 32 10 ds r) written parsed) digits.0 long
    (subst (λ (m : ℕ). m < 2 ^ 32) (sym value) is.1) in
    given ∙ ap (λ m. Ok m) value
  where
    longer : (xs ys : List ℕ) → 0 < length ys → 0 < length (xs ++ ys)
    longer [] ys filled = filled
    longer (x ∷ xs) ys filled = omega arith

cancel : (xs ys zs : List ℕ) → xs ++ ys ≡ xs ++ zs → ys ≡ zs
cancel [] ys zs e = e
cancel (x ∷ xs) ys zs e = cancel xs ys zs (ap (λ (l : List ℕ). drop 1 l) e)

same_ok : {E : Type 0} (r : Result ℕ E) (m n : ℕ) → Some m ≡ result_ok r → r ≡ Ok n → n ≡ m
same_ok (Ok k) m n found is = grind (arith, found, is)
same_ok (Err e) m n found is = absurd (grind (arith, found, is))

none_ok : {E : Type 0} (r : Result ℕ E) (n : ℕ) → None ≡ result_ok r → r ≡ Ok n → ⊥
none_ok (Ok k) n found is = absurd (grind (arith, found))
none_ok (Err e) n found is = absurd (grind (arith, is))

-- a text that is not parsed is not that of a part
pub not_parsed : {E : Type 0} (bs : List ℕ) (r : Result ℕ E) → ParsesUnsigned 32 10 bs r → None ≡ result_ok r → (n : ℕ) → IsFileNumber n → bs ≡ part_digits n → ⊥
not_parsed bs r parsed none n is written = none_ok r n none (parsed_part bs r parsed n is written)

-- a text that is parsed as a number is at most that of the part of this number
pub is_part : {E : Type 0} (bs : List ℕ) (r : Result ℕ E) (part : ℕ) → ParsesUnsigned 32 10 bs r → Some part ≡ result_ok r → (n : ℕ) → IsFileNumber n → bs ≡ part_digits n → n ≡ part
is_part bs r part parsed found n is written = same_ok r part n found (parsed_part bs r parsed n is written)

-- what follows the zeros of a part is its number
pub follows_zeros : (bs zeros rest : List ℕ) (part : ℕ) → zeros ≡ leading_zeros part → StripsPrefix (FindsTextPrefix zeros) bs rest → bs ≡ part_digits part → rest ≡ decimal part
follows_zeros bs zeros rest part is (k, found, behind, long) written =
    cancel zeros rest (decimal part) (sym (found.1 ∙ ap (λ (l : List ℕ). zeros ++ l) (sym behind)) ∙ written ∙ ap (λ (l : List ℕ). l ++ decimal part) (sym is))

-- no two numbers have the same text
pub same_number : (m n : ℕ) → IsFileNumber m → IsFileNumber n → (rest : List ℕ) → rest ≡ decimal m → rest ≡ decimal n → m ≡ n
same_number m n one other rest first second = decimal_injective m n (omega (arith, one.1)) (omega (arith, other.1)) (sym first ∙ second)

digits_of : (n : ℕ) → IsFileNumber n → AllDigits 10 (decimal n)
digits_of n is = digits_decimal own n (omega (arith, is.1))

-- a character that is no digit is not in a number
lacks : (c n : ℕ) → (IsInRange 48 57 c → ⊥) → IsFileNumber n → (i : ℕ) → i < length (decimal n) → get_or (decimal n) i 0 ≢ c
lacks c n other is = not_in_digits own (decimal n) c (digits_of n is) other

abbrev Parts : Type 0
Parts = Bor (List ℕ) × Bor (List ℕ)

-- a text is split behind the number that it begins with
pub splits : (c : ℕ) → c < 128 → (IsInRange 48 57 c → ⊥) → (bs ys : List ℕ) (n : ℕ) → IsFileNumber n → (x : Parts) → IsSplitOnceResult c bs (Some x) → bs ≡ decimal n ++ (c ∷ []) ++ ys
    → (x.0.now ≡ decimal n) × (x.1.now ≡ ys)
splits c small other bs ys n is x cases written = split_after c bs (decimal n) ys (Some x) cases small (written ∙ append_assoc (decimal n) (c ∷ []) ys) (lacks c n other is)

pub is_split : (c : ℕ) → c < 128 → (IsInRange 48 57 c → ⊥) → (bs ys : List ℕ) (n : ℕ) → IsFileNumber n → FindsChar c bs None → bs ≡ decimal n ++ (c ∷ []) ++ ys → ⊥
is_split c small other bs ys n is cases written = split_after c bs (decimal n) ys None cases small (written ∙ append_assoc (decimal n) (c ∷ []) ys) (lacks c n other is)

middle : (c : ℕ) (xs ys : List ℕ) → (length xs < length (xs ++ (c ∷ ys))) × (get_or (xs ++ (c ∷ ys)) (length xs) 0 ≡ c)
middle c [] ys = (omega arith, refl)
middle c (x ∷ xs) ys = let more = middle c xs ys in (omega (arith, more.0), more.1)

-- a number is not split
pub not_split : (c : ℕ) → c < 128 → (IsInRange 48 57 c → ⊥) → (bs : List ℕ) (n : ℕ) → IsFileNumber n → (x : Parts) → IsSplitOnceResult c bs (Some x) → bs ≡ decimal n → ⊥
not_split c small other bs n is x cases written =
    let parts = split_parts c bs (Some x) cases small in
    let whole : decimal n ≡ x.0.now ++ (c ∷ x.1.now) = sym written ∙ parts.0 in
    let found = middle c x.0.now x.1.now in
    lacks c n other is (length x.0.now) (subst (λ (ds : List ℕ). length x.0.now < length ds) (sym whole) found.0) (subst (λ (ds : List ℕ). get_or ds (length x.0.now) 0 ≡ c) (sym whole) found.1)

pub point : IsInRange 48 57 46 → ⊥
point within = omega (arith, within)

pub hyphen : IsInRange 48 57 45 → ⊥
hyphen within = omega (arith, within)

-- a number above 255 is not that of a line
pub no_line : (bs : List ℕ) (n : ℕ) → IsFileNumber n → bs ≡ decimal n → 255 < n → (line : ℕ) → IsLineNumber line → bs ≡ decimal line → ⊥
no_line bs n is written above line small other =
    let e : n ≡ line = same_number n line is (small.0, omega (arith, small.1)) bs written other in omega (arith, above, small.1, e)

joined : (a d h k e : List ℕ) → a ++ d ++ h ++ k ++ e ≡ a ++ ((d ++ h ++ k) ++ e)
joined a d h k e = simp (append_assoc)

joined_part : (a d h k p z m e : List ℕ) → a ++ d ++ h ++ k ++ (p ++ z ++ m ++ e) ≡ a ++ ((d ++ h ++ (k ++ p ++ (z ++ m))) ++ e)
joined_part a d h k p z m e = simp (append_assoc)

-- the name of a file is its numbers between two words
name_is : (name : AuditName) → audit_name_text name ≡ codes "line-" ++ (numbers_text name ++ codes ".audit")
name_is name = parts name.line name.number name.part
  where
    parts : (line number : ℕ) (part : Option ℕ)
        → codes "line-" ++ decimal line ++ codes "-" ++ decimal number ++ part_words part ≡ codes "line-" ++ ((decimal line ++ codes "-" ++ text_number_text (number, part)) ++ codes ".audit")
    parts line number None = joined (codes "line-") (decimal line) (codes "-") (decimal number) (codes ".audit")
    parts line number (Some part) = joined_part (codes "line-") (decimal line) (codes "-") (decimal number) (codes ".") (leading_zeros part) (decimal part) (codes ".audit")

pub read_name : (bs words : List ℕ) → bs ≡ codes "line-" ++ (words ++ codes ".audit") → (r : Option AuditName) → IsReadFrom numbers_text IsFileName words r → IsReadFrom audit_name_text IsFileName bs r
read_name bs words whole (Some name) (is, written) = (is, whole ∙ ap (λ (l : List ℕ). codes "line-" ++ (l ++ codes ".audit")) written ∙ sym (name_is name))
read_name bs words whole None none = λ name is written.
    none name is (append_cancel_right words (numbers_text name) (codes ".audit") (cancel (codes "line-") (words ++ codes ".audit") (numbers_text name ++ codes ".audit") (sym whole ∙ written ∙ name_is name)))

-- a name that begins as names do, but does not end so, is none
pub no_ending : (bs rest : List ℕ) → StripsPrefix (FindsTextPrefix (codes "line-")) bs rest → ((front : List ℕ) → rest ≢ front ++ codes ".audit") → (name : AuditName) → bs ≡ audit_name_text name → ⊥
no_ending bs rest (k, found, behind, long) ends name written =
    ends (numbers_text name) (behind ∙ cancel (codes "line-") (drop k bs) (numbers_text name ++ codes ".audit") (sym found.1 ∙ written ∙ name_is name))

pub between : (bs rest words : List ℕ) → StripsPrefix (FindsTextPrefix (codes "line-")) bs rest → StripsSuffix (FindsTextSuffix (codes ".audit")) rest words → bs ≡ codes "line-" ++ (words ++ codes ".audit")
between bs rest words (k, found, behind, long) (n, ends, before, short) =
    found.1 ∙ ap (λ (l : List ℕ). codes "line-" ++ l) (sym behind ∙ ends.1 ∙ ap (λ (l : List ℕ). l ++ codes ".audit") (sym before))
