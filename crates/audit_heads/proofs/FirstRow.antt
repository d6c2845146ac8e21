-- The first row of a text, by the place of its LF.
use Rattle.std.proofs.Common.{◌≡◌, ℕ, suc, ◌+◌, ◌-◌, Bool, true, false, not, cond, ltb, List, [], ◌∷◌, length, take, drop, Option, Some, None, refl, sym, ap, ◌∙◌, arith}
use Rattle.std.specs.Prelude.{option_map, position}
use Rattle.std.specs.List.{position_or_len}
use Rattle.std.proofs.lemmas.Bool.{ltb-true, ltb-false, lt-ltb, le-ltb}
use Rattle.std.proofs.lemmas.List.{take_rest}
use Rattle.dp_text.proofs.Places.{is_lf}
use Rattle.audit_heads.specs.Rows.{first_row}
use Rattle.audit_heads.proofs.RowsRead.{FirstAndRest, with_octet}

-- the place by the test of the first octet
abbrev place_by : Bool → ℕ → ℕ
place_by found place = cond (not found) (1 + place) 0

abbrev parts_at : ℕ → List ℕ → Option FirstAndRest
parts_at place text = Some (take place text, drop (place + 1) text)

at_first : (found : Bool) (octet : ℕ) (text : List ℕ) (place : ℕ) → (ltb place (length text) ≡ true → first_row text ≡ parts_at place text)
    → ltb (place_by found place) (suc (length text)) ≡ true
    → cond found (Some ([], text)) (option_map (with_octet octet) (first_row text)) ≡ parts_at (place_by found place) (octet ∷ text)
at_first true octet text place before within = refl
at_first false octet text place before within =
    let below = ltb-true (1 + place) (suc (length text)) within in
    let one : 1 + place ≡ suc place = omega arith in
    let two : suc place + 1 ≡ suc (place + 1) = omega arith in
    ap (option_map (with_octet octet)) (before (lt-ltb place (length text) (omega (arith, below)))) ∙ rw (one, two) refl

row_at : (text : List ℕ) → ltb (position_or_len is_lf text) (length text) ≡ true → first_row text ≡ parts_at (position_or_len is_lf text) text
row_at [] within = absurd cc
row_at (octet ∷ text) within = at_first (is_lf octet) octet text (position_or_len is_lf text) (row_at text) within

past_first : (found : Bool) (octet : ℕ) (text : List ℕ) (place : ℕ) → (ltb place (length text) ≡ false → first_row text ≡ None)
    → ltb (place_by found place) (suc (length text)) ≡ false → cond found (Some ([], text)) (option_map (with_octet octet) (first_row text)) ≡ None
past_first true octet text place before past = absurd (omega (arith, ltb-false 0 (suc (length text)) past))
past_first false octet text place before past =
    let above = ltb-false (1 + place) (suc (length text)) past in
    ap (option_map (with_octet octet)) (before (le-ltb place (length text) (omega (arith, above))))

no_row_at : (text : List ℕ) → ltb (position_or_len is_lf text) (length text) ≡ false → first_row text ≡ None
no_row_at [] past = refl
no_row_at (octet ∷ text) past = past_first (is_lf octet) octet text (position_or_len is_lf text) (no_row_at text) past

some_place : (test : Bool) (n i : ℕ) → cond test (Some n) None ≡ Some i → (test ≡ true) × (n ≡ i)
some_place true n i e = (refl, cc)
some_place false n i e = absurd cc

no_place : (test : Bool) (n : ℕ) → cond test (Some n) None ≡ None → test ≡ false
no_place true n e = absurd cc
no_place false n e = refl

pub row_found : (text : List ℕ) (i : ℕ) → Some i ≡ position is_lf text → first_row text ≡ Some (take i text, take (length text - (i + 1)) (drop (i + 1) text))
row_found text i e =
    let (within, is) = some_place (ltb (position_or_len is_lf text) (length text)) (position_or_len is_lf text) i (sym e) in
    row_at text within ∙ ap (λ n. parts_at n text) is ∙ ap (λ (rest : List ℕ). Some (take i text, rest)) (sym (take_rest text (i + 1)))

pub no_row : (text : List ℕ) → None ≡ position is_lf text → first_row text ≡ None
no_row text e = no_row_at text (no_place (ltb (position_or_len is_lf text) (length text)) (position_or_len is_lf text) (sym e))
