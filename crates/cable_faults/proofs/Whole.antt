-- A whole telegram that has no fault, by its start delimiter.
use Rattle.std.proofs.Common.{◌≡◌, ℕ, ◌+◌, ◌≤◌, ◌⊎◌, inl, inr, Bool, true, false, not, ◌&&◌, eqb, ltb, leb, List, [], ◌∷◌, length, get_or, refl, sym, ◌∙◌, Option, Some, None, arith}
use Rattle.std.specs.Prelude.{is_none, if◌then◌else◌}
use Rattle.std.proofs.lemmas.Bool.{and_parts, leb-true, ltb-false}
use Rattle.std.proofs.lemmas.Grind.{common_steps}
use Rattle.dp_telegram.specs.declared.fault.FrameFault.{FrameFault}
use Rattle.dp_telegram.specs.declared.fault.FrameFault.TheVariants.{NoStart, BadHead, BadEnd, Short, Long}
use Rattle.dp_telegram.specs.declared.frame.Frame.{Frame}
use Rattle.dp_telegram.specs.FrameText.{sd1, sd2, sd3, sd4, sc, delimiter, end_is_right, fault_of, first_fault, frame_at, frame_length, frame_of, head_is_right, head_length, is_checked, is_start}
use Rattle.cable_faults.specs.Whole.{HasNoFault}

abbrev Rows : Bool → Bool → Bool → Bool → Bool → Bool → Bool → Option FrameFault
Rows a b c d e f g = first_fault ((a, Short) ∷ (not b, NoStart) ∷ (c, Short) ∷ (not d, BadHead) ∷ (e, Short) ∷ (not f, BadEnd) ∷ (g, Long) ∷ [])

rows_off : (a b c d e f g : Bool) → Rows a b c d e f g ≡ None
    → (a ≡ false) × (b ≡ true) × (c ≡ false) × (d ≡ true) × (e ≡ false) × (f ≡ true) × (g ≡ false)
rows_off true b c d e f g h = absurd cc
rows_off false false c d e f g h = absurd cc
rows_off false true true d e f g h = absurd cc
rows_off false true false false e f g h = absurd cc
rows_off false true false true true f g h = absurd cc
rows_off false true false true false false g h = absurd cc
rows_off false true false true false true true h = absurd cc
rows_off false true false true false true false h = (refl, refl, refl, refl, refl, refl, refl)

pub no_fault : (octets : List ℕ) → fault_of octets ≡ None → HasNoFault octets
no_fault octets none =
    let rows = rows_off (ltb (length octets) 1) (is_start (delimiter octets)) (ltb (length octets) (head_length octets)) (head_is_right octets)
    (ltb (length octets) (frame_length octets)) (end_is_right octets) (ltb (frame_length octets) (length octets)) none in
    let least = ltb-false (length octets) 1 rows.0 in
    let there = ltb-false (length octets) (head_length octets) rows.2 in
    let short = ltb-false (length octets) (frame_length octets) rows.4 in
    let long = ltb-false (frame_length octets) (length octets) rows.6 in
    record { start = rows.1; head = rows.3; whole = omega arith; ends = rows.5; some = omega arith; there = there }

faultless : (fault : Option FrameFault) (frame other : Frame) → (if is_none fault then Some frame else None) ≡ Some other → fault ≡ None
faultless None frame other same = refl
faultless (Some fault) frame other same = absurd cc

frame_by : (fault : Option FrameFault) (frame other : Frame) → (if is_none fault then Some frame else None) ≡ Some other → frame ≡ other
frame_by None frame other same = cc
frame_by (Some fault) frame other same = absurd cc

pub frame_is : (octets : List ℕ) (frame : Frame) → Some frame ≡ frame_of octets → frame_at octets ≡ frame
frame_is octets frame same = frame_by (fault_of octets) (frame_at octets) frame (sym same)

pub of_frame : (octets : List ℕ) (frame : Frame) → Some frame ≡ frame_of octets → HasNoFault octets
of_frame octets frame same = no_fault octets (faultless (fault_of octets) (frame_at octets) frame (sym same))

pub is_one_of_five : (d : ℕ) → is_start d ≡ true → (d ≡ sd1) ⊎ (d ≡ sd2) ⊎ (d ≡ sd3) ⊎ (d ≡ sd4) ⊎ (d ≡ sc)
is_one_of_five d e = grind (arith, common_steps)

-- a telegram with a check sequence has at least one octet that it covers
sd2_room : (octets : List ℕ) → delimiter octets ≡ sd2 → head_is_right octets ≡ true → 4 ≤ get_or octets 1 0
sd2_room octets start head =
    let right : (leb 4 (get_or octets 1 0) && leb (get_or octets 1 0) 249 && eqb (get_or octets 1 0) (get_or octets 2 0) && eqb (get_or octets 3 0) sd2) ≡ true
    = grind (arith, common_steps, start, head) in
    let three = and_parts (leb 4 (get_or octets 1 0) && leb (get_or octets 1 0) 249 && eqb (get_or octets 1 0) (get_or octets 2 0)) (eqb (get_or octets 3 0) sd2) right in
    let two = and_parts (leb 4 (get_or octets 1 0) && leb (get_or octets 1 0) 249) (eqb (get_or octets 1 0) (get_or octets 2 0)) three.0 in
    let one = and_parts (leb 4 (get_or octets 1 0)) (leb (get_or octets 1 0) 249) two.0 in
    leb-true 4 (get_or octets 1 0) one.0

room_by : (octets : List ℕ) (d : ℕ) → delimiter octets ≡ d → HasNoFault octets → is_checked octets ≡ true
    → (d ≡ sd1) ⊎ (d ≡ sd2) ⊎ (d ≡ sd3) ⊎ (d ≡ sd4) ⊎ (d ≡ sc) → head_length octets + 2 ≤ length octets
room_by octets d is whole checked (inl e) = let size = whole.whole in grind (arith, common_steps, is, e, size)
room_by octets d is whole checked (inr (inl e)) =
    let size = whole.whole in
    let least = sd2_room octets (is ∙ e) whole.head in
    grind (arith, common_steps, is, e, size, least)
room_by octets d is whole checked (inr (inr (inl e))) = let size = whole.whole in grind (arith, common_steps, is, e, size)
room_by octets d is whole checked (inr (inr (inr (inl e)))) = absurd (grind (arith, common_steps, is, e, checked))
room_by octets d is whole checked (inr (inr (inr (inr e)))) = absurd (grind (arith, common_steps, is, e, checked))

pub has_room : (octets : List ℕ) → HasNoFault octets → is_checked octets ≡ true → head_length octets + 2 ≤ length octets
has_room octets whole checked = room_by octets (delimiter octets) refl whole checked (is_one_of_five (delimiter octets) whole.start)
