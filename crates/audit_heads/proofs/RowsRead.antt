-- A row is read as the value whose words it has, and as no other.
use Rattle.std.proofs.Common.{◌≡◌, ℕ, ◌+◌, ◌==◌, true, not, List, [], ◌∷◌, ◌++◌, Option, Some, None, Result, Ok, Err, inl, inr, refl, sym, ap, ◌∙◌, append_assoc}
use Rattle.std.specs.Prelude.{option_map}
use Rattle.std.proofs.lemmas.Bool.{cases_Bool, and_parts, not-true, eqb-true, cond-true, cond-false}
use Rattle.dp_text.specs.Words.{words_of, same_text}
use Rattle.dp_text.proofs.ReadBack.{same_is}
use Rattle.dp_text.proofs.ReadExactly.{some_by, some_same}
use Rattle.audit_heads.specs.Rows.{Left, after_row, and_then, first_row, from_row, if_written, read_row, row_text, spaced, value_of_row}
use Rattle.audit_heads.proofs.Plain.{IsRow, has_no_lf, same_itself}

-- ---- the first row

abbrev pub FirstAndRest : Type 0
FirstAndRest = List ℕ × List ℕ

abbrev pub with_octet : ℕ → FirstAndRest → FirstAndRest
with_octet octet parts = (octet ∷ parts.0, parts.1)

abbrev joined : FirstAndRest → List ℕ
joined parts = parts.0 ++ 10 ∷ parts.1

first_row_at : (row rest : List ℕ) → has_no_lf row ≡ true → first_row (row ++ 10 ∷ rest) ≡ Some (row, rest)
first_row_at [] rest free = refl
first_row_at (octet ∷ row) rest free =
    let (first, others) = and_parts (not (octet == 10)) (has_no_lf row) free in
    cond-false (octet == 10) (Some ([], row ++ 10 ∷ rest)) (option_map (with_octet octet) (first_row (row ++ 10 ∷ rest))) (not-true (octet == 10) first)
    ∙ ap (option_map (with_octet octet)) (first_row_at row rest others)

behind : (octet : ℕ) (text : List ℕ) (found : Option FirstAndRest) (parts : FirstAndRest)
    → ((whole : FirstAndRest) → found ≡ Some whole → text ≡ joined whole) → option_map (with_octet octet) found ≡ Some parts → octet ∷ text ≡ joined parts
behind octet text None parts before e = absurd cc
behind octet text (Some whole) parts before e =
    ap (λ (t : List ℕ). octet ∷ t) (before whole refl) ∙ ap joined (some_same {x = with_octet octet whole} {y = parts} e)

first_row_is : (text : List ℕ) (parts : FirstAndRest) → first_row text ≡ Some parts → text ≡ joined parts
first_row_is [] parts e = absurd cc
first_row_is (octet ∷ text) parts e = elim (cases_Bool (octet == 10)) [
  | inl lf ↦
      ap (λ o. o ∷ text) (eqb-true octet 10 lf)
      ∙ ap joined (some_same {x = ([], text)} {y = parts}
      (sym (cond-true (octet == 10) (Some ([], text)) (option_map (with_octet octet) (first_row text)) lf) ∙ e))
  | inr other ↦
      behind octet text (first_row text) parts (first_row_is text)
      (sym (cond-false (octet == 10) (Some ([], text)) (option_map (with_octet octet) (first_row text)) other) ∙ e)
]

-- ---- a row

pub row_read : {A : Type 0} (words_for : A → List (List ℕ)) (found : List (List ℕ) → Option A) (value : A) (number : ℕ) (rest : List ℕ)
    → IsRow (words_for value) → found (words_for value) ≡ Some value
    → read_row (value_of_row words_for found) (record { number = number; text = row_text (words_for value) ++ rest })
    ≡ Ok (value, record { number = number + 1; text = rest })
row_read {A} words_for found value number rest is e =
    ap (λ (t : List ℕ). from_row number (value_of_row words_for found) (first_row t)) (append_assoc (spaced (words_for value)) (10 ∷ []) rest)
    ∙ ap (from_row number (value_of_row words_for found)) (first_row_at (spaced (words_for value)) rest is.no_lf)
    ∙ ap (λ (words : List (List ℕ)). after_row number rest (if_written words_for (spaced (words_for value)) (found words))) is.back
    ∙ ap (λ (o : Option A). after_row number rest (if_written words_for (spaced (words_for value)) o)) e
    ∙ ap (after_row number rest) (cond-true (same_text (spaced (words_for value)) (spaced (words_for value))) (Some value) None (same_itself (spaced (words_for value))))

written : {A : Type 0} (words_for : A → List (List ℕ)) (row : List ℕ) (found : Option A) (value : A)
    → if_written words_for row found ≡ Some value → row ≡ spaced (words_for value)
written words_for row None value e = absurd cc
written words_for row (Some other) value e =
    let (same, is) = some_by (same_text row (spaced (words_for other))) other value e in
    same_is row (spaced (words_for other)) same ∙ ap (λ v. spaced (words_for v)) is

pub some_ok : {X : Type 0} (x y : X) → ◌≡◌ {A = Result X ℕ} (Ok x) (Ok y) → x ≡ y
some_ok x y e = cc

behind_row : {A : Type 0} (number : ℕ) (rest : List ℕ) (read : Option A) (value : A) (after : Left)
    → after_row number rest read ≡ Ok (value, after) → (read ≡ Some value) × (rest ≡ after.text)
behind_row {A} number rest None value after e = absurd cc
behind_row {A} number rest (Some other) value after e =
    let is = some_ok {X = A × Left} (other, record { number = number + 1; text = rest }) (value, after) e in
    (ap (λ (p : A × Left). Some p.0) is, ap (λ (p : A × Left). p.1.text) is)

pub row_is : {A : Type 0} (words_for : A → List (List ℕ)) (found : List (List ℕ) → Option A) (left : Left) (value : A) (after : Left)
    → read_row (value_of_row words_for found) left ≡ Ok (value, after) → left.text ≡ row_text (words_for value) ++ after.text
row_is words_for found left value after e = by (first_row left.text) refl e
  where
    by : (first : Option FirstAndRest) → first_row left.text ≡ first → from_row left.number (value_of_row words_for found) first ≡ Ok (value, after)
        → left.text ≡ row_text (words_for value) ++ after.text
    by None is e = absurd cc
    by (Some parts) is e =
        let (read, rest) = behind_row left.number parts.1 (value_of_row words_for found parts.0) value after e in
        let row = written words_for parts.0 (found (words_of parts.0)) value read in
        first_row_is left.text parts is
        ∙ ap (λ (r : List ℕ). r ++ 10 ∷ parts.1) row
        ∙ ap (λ (r : List ℕ). spaced (words_for value) ++ 10 ∷ r) rest
        ∙ sym (append_assoc (spaced (words_for value)) (10 ∷ []) after.text)

-- ---- one after another

-- what was read before the rest
pub record Parted {A B : Type 0} (first : Result (A × Left) ℕ) (next : A → Left → Result (B × Left) ℕ) (whole : B × Left) : Type 0 where
  pub value : A
  pub left : Left
  pub first_is : first ≡ Ok (value, left)
  pub rest_is : next value left ≡ Ok whole

pub parted : {A B : Type 0} (first : Result (A × Left) ℕ) (next : A → Left → Result (B × Left) ℕ) (whole : B × Left)
    → and_then first next ≡ Ok whole → Parted first next whole
parted (Err number) next whole e = absurd cc
parted (Ok read) next whole e = record { value = read.0; left = read.1; first_is = refl; rest_is = e }
