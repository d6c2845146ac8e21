-- The place of the first bar in a text.
use Rattle.std.proofs.Common.{◌≡◌, ℕ, zero, suc, ◌+◌, ◌==◌, Bool, true, false, ◌&&◌, get_or, inl, inr, List, [], ◌∷◌, length, take, drop, Option, Some, None, refl, sym, ap, ◌∙◌, arith}
use Rattle.std.specs.Prelude.{option_map}
use Rattle.std.proofs.lemmas.Bool.{cases_Bool, false≢true, cond-true, cond-false, and_parts, and_from, le-leb}
use Rattle.memchr.specs.Find.{OccursAt, Nowhere, NoneBefore}
use Rattle.memchr.proofs.lemmas.MatchLemmas.{occurs_at-true, OccursAt-true}
use Rattle.dp_text.specs.Words.{same_text}
use Rattle.dp_audit.specs.Check.{bar, parted}

-- there is a bar at the front
abbrev pub begins : List ℕ → Bool
begins text = same_text (take 3 text) bar

begins_here : (text : List ℕ) → OccursAt text bar 0 → begins text ≡ true
begins_here text occurs = (and_parts _ _ (occurs_at-true text bar 0 occurs)).1

pub never_one : (x : Bool) → (x && false) ≡ true → ⊥
never_one true e = false≢true e
never_one false e = false≢true e

pub never_two : (x y : Bool) → (x && (y && false)) ≡ true → ⊥
never_two true y e = never_one y e
never_two false y e = false≢true e

here : (text : List ℕ) → begins text ≡ true → OccursAt text bar 0
here [] is = absurd (false≢true is)
here (a ∷ []) is = absurd (never_one (a == 32) is)
here (a ∷ b ∷ []) is = absurd (never_two (a == 32) (b == 124) is)
here (a ∷ b ∷ c ∷ text) is = OccursAt-true (a ∷ b ∷ c ∷ text) bar 0 (and_from _ _ (le-leb _ _ (omega arith)) is)

one_more : (k j : ℕ) → suc k + j ≡ suc (k + j)
one_more k j = omega arith

later : (octet : ℕ) (text : List ℕ) (k : ℕ) → OccursAt text bar k → OccursAt (octet ∷ text) bar (suc k)
later octet text k occurs = record {
  fits = let fits = occurs.fits in omega arith;
  reads = λ j within. ap (λ i. get_or (octet ∷ text) i 0) (one_more k j) ∙ occurs.reads j within;
}

sooner : (octet : ℕ) (text : List ℕ) (k : ℕ) → OccursAt (octet ∷ text) bar (suc k) → OccursAt text bar k
sooner octet text k occurs = record {
  fits = let fits = occurs.fits in omega arith;
  reads = λ j within. sym (ap (λ i. get_or (octet ∷ text) i 0) (one_more k j)) ∙ occurs.reads j within;
}

not_begun : (text : List ℕ) → (OccursAt text bar 0 → ⊥) → begins text ≡ false
not_begun text never = elim (cases_Bool (begins text)) [
  | inl is ↦ absurd (never (here text is))
  | inr other ↦ other
]

abbrev pub in_front : ℕ → Option (List ℕ × List ℕ) → Option (List ℕ × List ℕ)
in_front octet = option_map (λ parts. (octet ∷ parts.0, parts.1))

pub found : (text : List ℕ) (k : ℕ) → NoneBefore (OccursAt text bar) 0 (length text + 1) k × OccursAt text bar k → parted text ≡ Some (take k text, drop (k + 3) text)
found [] k (none, occurs) = absurd (let fits = occurs.fits in omega arith)
found (octet ∷ text) zero (none, occurs) =
    cond-true (begins (octet ∷ text)) (Some ([], drop 2 text)) (in_front octet (parted text)) (begins_here (octet ∷ text) occurs)
found (octet ∷ text) (suc k) (none, occurs) =
    let e : suc k + 3 ≡ suc (k + 3) = omega arith in
    let others : NoneBefore (OccursAt text bar) 0 (length text + 1) k = record {
      low = omega arith;
      high = let high = none.high in omega arith;
      before = λ j low high at. none.before (suc j) (omega arith) (omega arith) (later octet text j at);
    } in
    cond-false (begins (octet ∷ text)) (Some ([], drop 2 text)) (in_front octet (parted text)) (not_begun (octet ∷ text) (none.before 0 (omega arith) (omega arith)))
    ∙ ap (in_front octet) (found text k (others, sooner octet text k occurs))
    ∙ ap (λ n. Some (octet ∷ take k text, drop n (octet ∷ text))) (sym e)

pub nowhere : (text : List ℕ) → Nowhere (OccursAt text bar) 0 (length text + 1) → parted text ≡ None
nowhere [] none = refl
nowhere (octet ∷ text) none =
    cond-false (begins (octet ∷ text)) (Some ([], drop 2 text)) (in_front octet (parted text)) (not_begun (octet ∷ text) (none 0 (omega arith) (omega arith)))
    ∙ ap (in_front octet) (nowhere text (λ j low high at. none (suc j) (omega arith) (omega arith) (later octet text j at)))

-- the text before the first bar
pub front_found : (text : List ℕ) (k : ℕ) → NoneBefore (OccursAt text bar) 0 (length text + 1) k × OccursAt text bar k
    → option_map (λ parts. parts.0) (parted text) ≡ Some (take k text)
front_found text k first = ap (option_map (λ (parts : List ℕ × List ℕ). parts.0)) (found text k first)

pub no_front : (text : List ℕ) → Nowhere (OccursAt text bar) 0 (length text + 1) → option_map (λ parts. parts.0) (parted text) ≡ None
no_front text none = ap (option_map (λ (parts : List ℕ × List ℕ). parts.0)) (nowhere text none)
