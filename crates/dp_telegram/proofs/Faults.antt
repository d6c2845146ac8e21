-- What each fault means for the front of a stream, whatever follows.
use Rattle.std.proofs.Common.{◌≡◌, ℕ, ◌-◌, ◌≤◌, ◌<◌, inl, inr, Bool, true, false, not, ◌&&◌, ◌||◌, eqb, ltb, List, [], ◌∷◌, ◌++◌, length, drop, get_or, Option, Some, None, refl, sym, ap, ◌∙◌, arith}
use Rattle.std.specs.Prelude.{slice_range, if◌then◌else◌}
use Rattle.std.proofs.lemmas.Grind.{common_steps}
use Rattle.std.proofs.lemmas.Bool.{ltb-true, ltb-false, not-true, not-false, not_from_true, not_from_false, le-ltb, cases_Bool}
use Rattle.std.proofs.lemmas.List.{get_or_append_left, take-append-le}
use Rattle.std.proofs.lemmas.Slice.{between_is}
use Rattle.dp_telegram.specs.declared.fault.FrameFault.{FrameFault}
use Rattle.dp_telegram.specs.declared.fault.FrameFault.TheVariants.{NoStart, BadHead, BadEnd, Short, Long}
use Rattle.dp_telegram.specs.declared.frame.Frame.{Frame}
use Rattle.dp_telegram.specs.declared.frame.Frame.TheVariants as frames
use Rattle.dp_telegram.specs.FrameText.{sd2, sd4, sc, ed, check_sequence, fault_of, first_fault, frame_at, frame_length, head_length, head_is_right, end_is_right, is_start, delimiter, telegram_in}
use Rattle.dp_telegram.specs.Stream.{frame_in_front, piece_by, piece_of}

-- bounds on the lengths by the head
pub frame_length_some : (octets : List ℕ) → 1 ≤ frame_length octets
frame_length_some octets = grind (arith, common_steps)

pub head_within_frame : (octets : List ℕ) → head_length octets ≤ frame_length octets
head_within_frame octets = grind (arith, common_steps)

pub head_length_some : (octets : List ℕ) → 1 ≤ head_length octets
head_length_some octets = grind (arith, common_steps)

head_length_most : (octets : List ℕ) → head_length octets ≤ 4
head_length_most octets = grind (arith, common_steps)

frame_length_most : (octets : List ℕ) → head_is_right octets ≡ true → frame_length octets ≤ 255
frame_length_most octets right = grind (arith, common_steps)

-- what stands within the first octets does not depend on what follows
range_same : (octets more : List ℕ) (i j : ℕ) → j ≤ length octets → slice_range (octets ++ more) i j ≡ slice_range octets i j
range_same octets more i j le =
    between_is (octets ++ more) i j ∙ ap (drop i) (take-append-le j octets more le) ∙ sym (between_is octets i j)

pub delimiter_same : (octets more : List ℕ) → 1 ≤ length octets → delimiter (octets ++ more) ≡ delimiter octets
delimiter_same [] more some = absurd (omega arith)
delimiter_same (d ∷ rest) more some = refl

pub right_same : (octets more : List ℕ) → head_length octets ≤ length octets → head_is_right (octets ++ more) ≡ head_is_right octets
right_same [] more there = absurd (omega arith)
right_same (d ∷ []) more there = elim (cases_Bool (eqb d sd2)) [ inl e ↦ grind (arith, common_steps) | inr e ↦ rw e refl ]
right_same (d ∷ a ∷ []) more there = elim (cases_Bool (eqb d sd2)) [ inl e ↦ grind (arith, common_steps) | inr e ↦ rw e refl ]
right_same (d ∷ a ∷ b ∷ []) more there = elim (cases_Bool (eqb d sd2)) [ inl e ↦ grind (arith, common_steps) | inr e ↦ rw e refl ]
right_same (d ∷ a ∷ b ∷ c ∷ rest) more there = refl

pub size_same : (octets more : List ℕ) → head_length octets ≤ length octets → frame_length (octets ++ more) ≡ frame_length octets
size_same [] more there = absurd (omega arith)
size_same (d ∷ []) more there = elim (cases_Bool (eqb d sd2)) [ inl e ↦ grind (arith, common_steps) | inr e ↦ rw e refl ]
size_same (d ∷ a ∷ rest) more there = refl

-- the end of a frame, and the frame, by start delimiter, length of the head and length of the frame
end_by : ℕ → ℕ → ℕ → List ℕ → Bool
end_by d head size octets = not (not (eqb d sd4 || eqb d sc))
    || eqb (get_or octets (size - 2) 0) (check_sequence (slice_range octets head (size - 2))) && eqb (get_or octets (size - 1) 0) ed

end_by_same : (d head size : ℕ) (octets more : List ℕ) → 1 ≤ length octets → size ≤ length octets → end_by d head size (octets ++ more) ≡ end_by d head size octets
unfolding end_by
end_by_same d head size octets more some le =
    let check : get_or (octets ++ more) (size - 2) 0 ≡ get_or octets (size - 2) 0 = get_or_append_left octets more 0 (size - 2) (omega arith) in
    let last : get_or (octets ++ more) (size - 1) 0 ≡ get_or octets (size - 1) 0 = get_or_append_left octets more 0 (size - 1) (omega arith) in
    let body : slice_range (octets ++ more) head (size - 2) ≡ slice_range octets head (size - 2) = range_same octets more head (size - 2) (omega arith) in
    let family : ℕ → ℕ → List ℕ → Bool = λ x y z. not (not (eqb d sd4 || eqb d sc)) || eqb x (check_sequence z) && eqb y ed in
    ap (λ x. family x (get_or (octets ++ more) (size - 1) 0) (slice_range (octets ++ more) head (size - 2))) check
    ∙ ap (λ y. family (get_or octets (size - 2) 0) y (slice_range (octets ++ more) head (size - 2))) last
    ∙ ap (λ z. family (get_or octets (size - 2) 0) (get_or octets (size - 1) 0) z) body

-- all octets of a frame with a right head stand in front
pub record InFront (stream : List ℕ) : Type 0 where
  pub start : is_start (delimiter stream) ≡ true
  pub there : head_length stream ≤ length stream
  pub right : head_is_right stream ≡ true
  pub room : frame_length stream ≤ length stream

pub end_same : (octets more : List ℕ) → head_length octets ≤ length octets → frame_length octets ≤ length octets → end_is_right (octets ++ more) ≡ end_is_right octets
unfolding end_by
end_same octets more there room =
    let some : 1 ≤ length octets = omega (arith, head_length_some octets) in
    let start : delimiter (octets ++ more) ≡ delimiter octets = delimiter_same octets more some in
    let size : frame_length (octets ++ more) ≡ frame_length octets = size_same octets more there in
    let head : head_length (octets ++ more) ≡ head_length octets = ap (λ (d : ℕ). if eqb d sd2 then 4 else 1) start in
    ap (λ (d : ℕ). end_by d (head_length (octets ++ more)) (frame_length (octets ++ more)) (octets ++ more)) start
    ∙ ap (λ (h : ℕ). end_by (delimiter octets) h (frame_length (octets ++ more)) (octets ++ more)) head
    ∙ ap (λ (n : ℕ). end_by (delimiter octets) (head_length octets) n (octets ++ more)) size
    ∙ end_by_same (delimiter octets) (head_length octets) (frame_length octets) octets more some room

frame_by : ℕ → ℕ → ℕ → List ℕ → Frame
frame_by d head size octets =
    if eqb d sd4 then frames.Token (get_or octets 1 0) (get_or octets 2 0)
    else if eqb d sc then frames.Ack
    else frames.Telegram (telegram_in (slice_range octets head (size - 2)))

frame_by_same : (d head size : ℕ) (octets more : List ℕ) → (eqb d sd4 ≡ true → 3 ≤ length octets) → size ≤ length octets → frame_by d head size (octets ++ more) ≡ frame_by d head size octets
unfolding frame_by
frame_by_same d head size octets more token le = elim (cases_Bool (eqb d sd4)) [
  | inl e ↦
      let three = token e in
      let one : get_or (octets ++ more) 1 0 ≡ get_or octets 1 0 = get_or_append_left octets more 0 1 (omega arith) in
      let two : get_or (octets ++ more) 2 0 ≡ get_or octets 2 0 = get_or_append_left octets more 0 2 (omega arith) in
      rw (e, one, two) refl
  | inr e ↦
      let body : slice_range (octets ++ more) head (size - 2) ≡ slice_range octets head (size - 2) = range_same octets more head (size - 2) (omega arith) in
      rw e (ap (λ (z : List ℕ). if eqb d sc then frames.Ack else frames.Telegram (telegram_in z)) body)
]

pub frame_same : (octets more : List ℕ) → head_length octets ≤ length octets → frame_length octets ≤ length octets → frame_at (octets ++ more) ≡ frame_at octets
unfolding frame_by
frame_same octets more there room =
    let some : 1 ≤ length octets = omega (arith, head_length_some octets) in
    let start : delimiter (octets ++ more) ≡ delimiter octets = delimiter_same octets more some in
    let size : frame_length (octets ++ more) ≡ frame_length octets = size_same octets more there in
    let head : head_length (octets ++ more) ≡ head_length octets = ap (λ (d : ℕ). if eqb d sd2 then 4 else 1) start in
    let token : eqb (delimiter octets) sd4 ≡ true → 3 ≤ length octets = λ e. grind (arith, common_steps) in
    ap (λ (d : ℕ). frame_by d (head_length (octets ++ more)) (frame_length (octets ++ more)) (octets ++ more)) start
    ∙ ap (λ (h : ℕ). frame_by (delimiter octets) h (frame_length (octets ++ more)) (octets ++ more)) head
    ∙ ap (λ (n : ℕ). frame_by (delimiter octets) (head_length octets) n (octets ++ more)) size
    ∙ frame_by_same (delimiter octets) (head_length octets) (frame_length octets) octets more token room

-- what each fault of octets means
abbrev pub Means : List ℕ → Option FrameFault → Type 0
Means stream None = InFront stream × (end_is_right stream ≡ true) × (length stream ≡ frame_length stream)
Means stream (Some Long) = InFront stream × (end_is_right stream ≡ true) × (frame_length stream < length stream)
Means stream (Some NoStart) = (1 ≤ length stream) × (is_start (delimiter stream) ≡ false)
Means stream (Some BadHead) = (is_start (delimiter stream) ≡ true) × (head_length stream ≤ length stream) × (head_is_right stream ≡ false)
Means stream (Some BadEnd) = InFront stream × (end_is_right stream ≡ false)
Means stream (Some Short) = (length stream < frame_length stream) × (length stream < 255)

rows : (a b c d e f g : Bool) → Option FrameFault
rows a b c d e f g = first_fault ((a, Short) ∷ (b, NoStart) ∷ (c, Short) ∷ (d, BadHead) ∷ (e, Short) ∷ (f, BadEnd) ∷ (g, Long) ∷ [])

means_by : (s : List ℕ) (a b c d e f g : Bool) → ltb (length s) 1 ≡ a → not (is_start (delimiter s)) ≡ b → ltb (length s) (head_length s) ≡ c → not (head_is_right s) ≡ d
    → ltb (length s) (frame_length s) ≡ e → not (end_is_right s) ≡ f → ltb (frame_length s) (length s) ≡ g → Means s (rows a b c d e f g)
unfolding rows
means_by s true b c d e f g ha hb hc hd he hf hg =
    let none : length s < 1 = ltb-true _ _ ha in
    (omega (arith, frame_length_some s), omega arith)
means_by s false true c d e f g ha hb hc hd he hf hg = (ltb-false (length s) 1 ha, not-true _ hb)
means_by s false false true d e f g ha hb hc hd he hf hg =
    let few : length s < head_length s = ltb-true _ _ hc in
    (omega (arith, head_within_frame s), omega (arith, head_length_most s))
means_by s false false false true e f g ha hb hc hd he hf hg = (not-false _ hb, ltb-false _ _ hc, not-true _ hd)
means_by s false false false false true f g ha hb hc hd he hf hg =
    let few : length s < frame_length s = ltb-true _ _ he in
    (few, omega (arith, frame_length_most s (not-false _ hd)))
means_by s false false false false false true g ha hb hc hd he hf hg =
    (record { start = not-false _ hb; there = ltb-false _ _ hc; right = not-false _ hd; room = ltb-false _ _ he }, not-true _ hf)
means_by s false false false false false false true ha hb hc hd he hf hg =
    (record { start = not-false _ hb; there = ltb-false _ _ hc; right = not-false _ hd; room = ltb-false _ _ he }, not-false _ hf, ltb-true _ _ hg)
means_by s false false false false false false false ha hb hc hd he hf hg =
    let low = ltb-false (length s) (frame_length s) he in
    let high = ltb-false (frame_length s) (length s) hg in
    (record { start = not-false _ hb; there = ltb-false _ _ hc; right = not-false _ hd; room = low }, not-false _ hf, omega (arith, low, high))

pub means : (s : List ℕ) → Means s (fault_of s)
unfolding rows
means s = means_by s _ _ _ _ _ _ _ refl refl refl refl refl refl refl

-- octets with the meaning of a fault have that fault
no_start_row : (a b c d e f g : Bool) → a ≡ false → b ≡ true → rows a b c d e f g ≡ Some NoStart
unfolding rows
no_start_row true b c d e f g ha hb = absurd cc
no_start_row false false c d e f g ha hb = absurd cc
no_start_row false true c d e f g ha hb = refl

bad_head_row : (a b c d e f g : Bool) → a ≡ false → b ≡ false → c ≡ false → d ≡ true → rows a b c d e f g ≡ Some BadHead
unfolding rows
bad_head_row true b c d e f g ha hb hc hd = absurd cc
bad_head_row false true c d e f g ha hb hc hd = absurd cc
bad_head_row false false true d e f g ha hb hc hd = absurd cc
bad_head_row false false false false e f g ha hb hc hd = absurd cc
bad_head_row false false false true e f g ha hb hc hd = refl

last_rows : (a b c d e f g : Bool) → a ≡ false → b ≡ false → c ≡ false → d ≡ false → e ≡ false → rows a b c d e f g ≡ first_fault ((f, BadEnd) ∷ (g, Long) ∷ [])
unfolding rows
last_rows true b c d e f g ha hb hc hd he = absurd cc
last_rows false true c d e f g ha hb hc hd he = absurd cc
last_rows false false true d e f g ha hb hc hd he = absurd cc
last_rows false false false true e f g ha hb hc hd he = absurd cc
last_rows false false false false true f g ha hb hc hd he = absurd cc
last_rows false false false false false f g ha hb hc hd he = refl

pub no_start_fault : (s : List ℕ) → 1 ≤ length s → is_start (delimiter s) ≡ false → fault_of s ≡ Some NoStart
unfolding rows
no_start_fault s some start = no_start_row _ _ (ltb (length s) (head_length s)) (not (head_is_right s)) (ltb (length s) (frame_length s)) (not (end_is_right s)) (ltb (frame_length s) (length s)) (le-ltb (length s) 1 some) (not_from_false _ start)

pub bad_head_fault : (s : List ℕ) → is_start (delimiter s) ≡ true → head_length s ≤ length s → head_is_right s ≡ false → fault_of s ≡ Some BadHead
unfolding rows
bad_head_fault s start there wrong =
    bad_head_row _ _ _ _ (ltb (length s) (frame_length s)) (not (end_is_right s)) (ltb (frame_length s) (length s)) (le-ltb (length s) 1 (omega (arith, head_length_some s))) (not_from_true _ start) (le-ltb _ _ there) (not_from_false _ wrong)

in_front_fault : (s : List ℕ) → InFront s → fault_of s ≡ first_fault ((not (end_is_right s), BadEnd) ∷ (ltb (frame_length s) (length s), Long) ∷ [])
unfolding rows
in_front_fault s front =
    last_rows _ _ _ _ _ (not (end_is_right s)) (ltb (frame_length s) (length s)) (le-ltb (length s) 1 (omega (arith, front.there, head_length_some s))) (not_from_true _ front.start) (le-ltb _ _ front.there) (not_from_true _ front.right) (le-ltb _ _ front.room)

pub bad_end_fault : (s : List ℕ) → InFront s → end_is_right s ≡ false → fault_of s ≡ Some BadEnd
bad_end_fault s front wrong =
    in_front_fault s front ∙ ap (λ (b : Bool). first_fault ((not b, BadEnd) ∷ (ltb (frame_length s) (length s), Long) ∷ [])) wrong

pub whole_fault : (s : List ℕ) → InFront s → end_is_right s ≡ true → length s ≡ frame_length s → fault_of s ≡ None
whole_fault s front right size =
    in_front_fault s front
    ∙ ap (λ (b : Bool). first_fault ((not b, BadEnd) ∷ (ltb (frame_length s) (length s), Long) ∷ [])) right
    ∙ ap (λ (b : Bool). first_fault ((b, Long) ∷ [])) (le-ltb (frame_length s) (length s) (omega (arith, size)))

front_or_long : (b : Bool) (s : List ℕ) → piece_by (first_fault ((b, Long) ∷ [])) s ≡ Some (frame_in_front s)
front_or_long true s = refl
front_or_long false s = refl

pub piece_in_front : (s : List ℕ) → InFront s → end_is_right s ≡ true → piece_of s ≡ Some (frame_in_front s)
piece_in_front s front right =
    ap (λ (f : Option FrameFault). piece_by f s) (in_front_fault s front ∙ ap (λ (b : Bool). first_fault ((not b, BadEnd) ∷ (ltb (frame_length s) (length s), Long) ∷ [])) right)
    ∙ front_or_long (ltb (frame_length s) (length s)) s
