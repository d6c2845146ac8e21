-- A note is changed at its place.
use Rattle.std.proofs.Common.{◌≡◌, ℕ, suc, ◌+◌, ◌≤◌, Bool, true, false, cond, not, List, [], ◌∷◌, Some, None, length, get_or, refl, ap, sym, arith}
use Rattle.std.proofs.Math.ListN.{set}
use Rattle.std.specs.Prelude.{nat_lt}
use Rattle.std.specs.List.{position, position_or_len}
use Rattle.std.proofs.lemmas.Bool.{ltb-false}
use Rattle.std.proofs.lemmas.Option.{cond_some}
use Rattle.arrayvec.specs.ArrayVec.{ArrayVec}
use Rattle.explain_events.specs.declared.notes.Noted.{Noted}
use Rattle.explain_events.specs.Notes.{is_note_of, noted_at}

-- a note with another request
abbrev pub renoted : ℕ → ArrayVec ℕ → Noted → Noted
renoted place octets noted = record noted { place = place; octets = octets }

set_by : (place : ℕ) (octets : ArrayVec ℕ) (first : Noted) (others rest : List Noted) (index behind : ℕ) (default : Noted) (b : Bool) → index ≡ cond (not b) (1 + behind) 0
    → set others behind (renoted place octets (get_or others behind default)) ≡ rest
    → set (first ∷ others) index (renoted place octets (get_or (first ∷ others) index default)) ≡ cond b (renoted place octets first ∷ others) (first ∷ rest)
set_by place octets first others rest index behind default true at same = rw at refl
set_by place octets first others rest index behind default false at same =
    let next : index ≡ suc behind = omega (arith, at) in rw next (ap (λ (notes : List Noted). first ∷ notes) same)

set_first : (slave master place : ℕ) (octets : ArrayVec ℕ) (notes : List Noted) (index : ℕ) (default : Noted) → index ≡ position_or_len (is_note_of slave master) notes
    → set notes index (renoted place octets (get_or notes index default)) ≡ noted_at slave master place octets notes
set_first slave master place octets [] index default at = refl
set_first slave master place octets (first ∷ others) index default at =
    let behind = position_or_len (is_note_of slave master) others in
    set_by place octets first others (noted_at slave master place octets others) index behind default (is_note_of slave master first) at
    (set_first slave master place octets others behind default refl)

-- the note that is found is changed
pub noted_at_found : (slave master place : ℕ) (octets : ArrayVec ℕ) (notes : List Noted) (index : ℕ) (default : Noted) → Some index ≡ position (is_note_of slave master) notes
    → set notes index (renoted place octets (get_or notes index default)) ≡ noted_at slave master place octets notes
noted_at_found slave master place octets notes index default found =
    let at = position_or_len (is_note_of slave master) notes in
    set_first slave master place octets notes index default (sym ((cond_some (nat_lt at (length notes)) at index (sym found)).1))

same_by : (first changed : Noted) (others rest : List Noted) (behind : ℕ) (b : Bool) → length (first ∷ others) ≤ cond (not b) (1 + behind) 0 → (length others ≤ behind → rest ≡ others)
    → cond b (changed ∷ others) (first ∷ rest) ≡ first ∷ others
same_by first changed others rest behind true past same = absurd (omega arith)
same_by first changed others rest behind false past same = ap (λ (notes : List Noted). first ∷ notes) (same (omega arith))

same_past : (slave master place : ℕ) (octets : ArrayVec ℕ) (notes : List Noted) → length notes ≤ position_or_len (is_note_of slave master) notes → noted_at slave master place octets notes ≡ notes
same_past slave master place octets [] past = refl
same_past slave master place octets (first ∷ others) past =
    same_by first (renoted place octets first) others (noted_at slave master place octets others) (position_or_len (is_note_of slave master) others) (is_note_of slave master first) past
    (same_past slave master place octets others)

none_by : (b : Bool) (index : ℕ) → None ≡ cond b (Some index) None → b ≡ false
none_by true index none = absurd cc
none_by false index none = refl

-- if there is none, nothing is changed
pub noted_at_none : (slave master place : ℕ) (octets : ArrayVec ℕ) (notes : List Noted) → None ≡ position (is_note_of slave master) notes → noted_at slave master place octets notes ≡ notes
noted_at_none slave master place octets notes none =
    let at = position_or_len (is_note_of slave master) notes in
    same_past slave master place octets notes (ltb-false at (length notes) (none_by (nat_lt at (length notes)) at none))
