-- Numbers that are read from rows.
use Rattle.std.proofs.Common.{◌≡◌, ◌≢◌, ℕ, ◌<◌, ◌≤◌, ◌^◌, List, [], ◌∷◌, ◌++◌, length, get_or, Result, Ok, Err, suc, zero, refl, sym, subst, ap, append_assoc, arith, ◌∙◌}
use Rattle.std.specs.Fmt.{decimal}
use Rattle.std.specs.Result.{result_ok}
use Rattle.std.specs.Str.Pattern.{FindsChar, FindsTextPrefix, StripsPrefix}
use Rattle.std.specs.Borrow.{Bor}
use Rattle.std.proofs.lemmas.Str.Pattern.{IsSplitOnceResult, split_after}
use Rattle.std.specs.Str.Parse.{AllDigits, ParsesUnsigned, digits_value}
use Rattle.std.proofs.lemmas.Str.Parse.{IsNumeralModel, not_in_digits, numerals_by_value, tells_digits, parse_plain}
use Rattle.std.proofs.lemmas.Fmt.{decimal-digits_value, decimal_digit, decimal_injective, digits_decimal, first_decimal, parse-decimal}
use Rattle.std.specs.Int.{IsInRange}
use Rattle.std.specs.Prelude.{Option, Some, None, codes, drop}
use Rattle.entry_times.specs.TimeRows.{IsHeader, IsNumber, IsReadFrom, IsTimeRow, header_text, time_row_text}
use Rattle.entry_times.specs.declared.time_row.TimesHeader.{TimesHeader}
use Rattle.entry_times.specs.declared.time_row.TimeRow.{TimeRow}

own : IsNumeralModel (AllDigits 10) (digits_value 10)
own = numerals_by_value (AllDigits 10) tells_digits

-- no number from 1 on begins with a zero
pub not_read : (bs : List ℕ) → get_or bs 0 0 ≤ 48 → (n : ℕ) → IsNumber 64 n → bs ≡ decimal n → ⊥
not_read bs low n is e =
    let above = first_decimal n is.0 is.1 in
    let here = subst (λ (ds : List ℕ). get_or ds 0 0 ≤ 48) e low in omega (arith, above, here)

-- what is parsed from a text that begins with another digit than zero
pub read : {E : Type 0} (bs : List ℕ) (r : Result ℕ E) → 48 < get_or bs 0 0 → ParsesUnsigned 64 10 bs r → IsReadFrom decimal (IsNumber 64) bs (result_ok r)
read {E} bs (Ok n) above parsed =
    let fits = parse_plain own {E = E} 64 bs (Ok n) parsed (omega (arith, above)) in
    let same : decimal (digits_value 10 bs) ≡ bs = decimal-digits_value own bs fits.0.0 fits.0.1 (λ zero. absurd (omega (arith, above, zero))) fits.0.2 in
    let written : bs ≡ decimal n = subst (λ (m : ℕ). bs ≡ decimal m) (sym fits.1) (sym same) in
    ((positive n written, subst (λ (m : ℕ). m < 2 ^ 64) (sym fits.1) fits.0.2), written)
  where
    positive : (m : ℕ) → bs ≡ decimal m → 1 ≤ m
    positive zero e = absurd (omega (arith, subst (λ (ds : List ℕ). 48 < get_or ds 0 0) (e ∙ decimal_digit 0 (omega arith)) above))
    positive (suc m) e = omega arith
read bs (Err e) above parsed = λ n is written.
    let given : Err e ≡ Ok n = parse-decimal 64 n bs (Err e) is.1 is.1 written parsed in absurd (grind (arith, given))

pub wide : (n : ℕ) → IsNumber 32 n → IsNumber 64 n
wide n is = (is.0, omega (arith, is.1))

pub wide_octet : (n : ℕ) → IsNumber 8 n → IsNumber 64 n
wide_octet n is = (is.0, omega (arith, is.1))

-- no two numbers have the same text
pub same_number : (m n : ℕ) → IsNumber 64 m → IsNumber 64 n → (rest : List ℕ) → rest ≡ decimal m → rest ≡ decimal n → m ≡ n
same_number m n one other rest first second = decimal_injective m n one.1 other.1 (sym first ∙ second)

-- a number that is too large is not one of fewer bits
pub not_place : (bs : List ℕ) (n : ℕ) → IsNumber 64 n → bs ≡ decimal n → 4294967295 < n → (place : ℕ) → IsNumber 32 place → bs ≡ decimal place → ⊥
not_place bs n is written above place small other =
    let e : n ≡ place = same_number n place is (wide place small) bs written other in omega (arith, above, small.1, e)

pub not_octet : (bs : List ℕ) (n : ℕ) → IsNumber 64 n → bs ≡ decimal n → 255 < n → (line : ℕ) → IsNumber 8 line → bs ≡ decimal line → ⊥
not_octet bs n is written above line small other =
    let e : n ≡ line = same_number n line is (wide_octet line small) bs written other in omega (arith, above, small.1, e)

pub cancel : (xs ys zs : List ℕ) → xs ++ ys ≡ xs ++ zs → ys ≡ zs
cancel [] ys zs e = e
cancel (x ∷ xs) ys zs e = cancel xs ys zs (ap (λ (l : List ℕ). drop 1 l) e)

-- a space is not in a number
lacks : (n : ℕ) → IsNumber 64 n → (i : ℕ) → i < length (decimal n) → get_or (decimal n) i 0 ≢ 32
lacks n is = not_in_digits own (decimal n) 32 (digits_decimal own n is.1) space
  where
    space : IsInRange 48 57 32 → ⊥
    space within = omega (arith, within)

abbrev Parts : Type 0
Parts = Bor (List ℕ) × Bor (List ℕ)

-- a row is split behind its place
pub splits : (bs : List ℕ) (row : TimeRow) → IsTimeRow row → (x : Parts) → IsSplitOnceResult 32 bs (Some x) → bs ≡ time_row_text row → (x.0.now ≡ decimal row.place) × (x.1.now ≡ decimal row.milliseconds)
splits bs row is x cases written =
    split_after 32 bs (decimal row.place) (decimal row.milliseconds) (Some x) cases (omega arith) (written ∙ append_assoc (decimal row.place) (32 ∷ []) (decimal row.milliseconds)) (lacks row.place (wide row.place is.0))

pub is_split : (bs : List ℕ) (row : TimeRow) → IsTimeRow row → FindsChar 32 bs None → bs ≡ time_row_text row → ⊥
is_split bs row is cases written =
    split_after 32 bs (decimal row.place) (decimal row.milliseconds) None cases (omega arith) (written ∙ append_assoc (decimal row.place) (32 ∷ []) (decimal row.milliseconds)) (lacks row.place (wide row.place is.0))

-- a text is split at a character in only one way
splits_once : (c : ℕ) (xs ys us vs : List ℕ) → ((i : ℕ) → i < length xs → get_or xs i 0 ≢ c) → ((i : ℕ) → i < length ys → get_or ys i 0 ≢ c) → xs ++ (c ∷ us) ≡ ys ++ (c ∷ vs) → (xs ≡ ys) × (us ≡ vs)
splits_once c [] [] us vs one other e = (refl, ap (λ (l : List ℕ). drop 1 l) e)
splits_once c [] (y ∷ ys) us vs one other e = absurd (other 0 (omega arith) (sym (ap (λ (l : List ℕ). get_or l 0 0) e)))
splits_once c (x ∷ xs) [] us vs one other e = absurd (one 0 (omega arith) (ap (λ (l : List ℕ). get_or l 0 0) e))
splits_once c (x ∷ xs) (y ∷ ys) us vs one other e =
    let more = splits_once c xs ys us vs (λ i within. one (suc i) (omega (arith, within))) (λ i within. other (suc i) (omega (arith, within))) (ap (λ (l : List ℕ). drop 1 l) e) in
    let first : x ≡ y = ap (λ (l : List ℕ). get_or l 0 0) e in (cc (first, more.0), more.1)

-- no two rows have the same text
pub same_row : (row other : TimeRow) → IsTimeRow row → IsTimeRow other → time_row_text row ≡ time_row_text other → row ≡ other
same_row row other one another same =
    let split = splits_once 32 (decimal row.place) (decimal other.place) (decimal row.milliseconds) (decimal other.milliseconds) (lacks row.place (wide row.place one.0)) (lacks other.place (wide other.place another.0))
    (sym (append_assoc (decimal row.place) (32 ∷ []) (decimal row.milliseconds)) ∙ same ∙ append_assoc (decimal other.place) (32 ∷ []) (decimal other.milliseconds)) in
    let places : row.place ≡ other.place = decimal_injective row.place other.place (wide row.place one.0).1 (wide other.place another.0).1 split.0 in
    let times : row.milliseconds ≡ other.milliseconds = decimal_injective row.milliseconds other.milliseconds one.1.1 another.1.1 split.1 in
    ap (λ (p : ℕ). record { place = p; milliseconds = row.milliseconds }) places ∙ ap (λ (t : ℕ). record { place = other.place; milliseconds = t }) times

-- what follows words with which a text begins
pub behind_words : (words bs rest ys : List ℕ) → StripsPrefix (FindsTextPrefix words) bs rest → bs ≡ words ++ ys → rest ≡ ys
behind_words words bs rest ys (k, found, behind, long) written = cancel words rest ys (sym (found.1 ∙ ap (λ (l : List ℕ). words ++ l) (sym behind)) ∙ written)

-- no two headers have the same text
pub same_line : (text : List ℕ) (header other : TimesHeader) → IsHeader header → IsHeader other → text ≡ header_text header → text ≡ header_text other → header.line ≡ other.line
same_line text header other one another first second =
    decimal_injective header.line other.line (wide_octet header.line one).1 (wide_octet other.line another).1 (cancel (codes "rack-times 1 line ") (decimal header.line) (decimal other.line) (sym first ∙ second))
