-- A spoilt telegram is none.
use Rattle.std.proofs.Common.{◌≡◌, ◌≢◌, ℕ, ◌+◌, ◌-◌, ◌%◌, ◌<◌, ◌≤◌, ◌⊎◌, inl, inr, Bool, true, false, not, ◌&&◌, ◌||◌, eqb, ltb, List, [], ◌∷◌, length, take, drop, get_or, sum, All, refl, sym, ap, subst, ◌∙◌, Option, Some, None, arith}
use Rattle.std.specs.Prelude.{slice_range}
use Rattle.std.proofs.lemmas.Bool.{eqb-true, ne_eqb, cases_lt, cases_Bool, le-ltb}
use Rattle.std.proofs.lemmas.Grind.{common_steps}
use Rattle.std.proofs.lemmas.List.{length-set, get_or-set_same, get_or-set_other, drop-set-add, take-set, length-take, length-drop}
use Rattle.std.proofs.lemmas.List.Elements.{All-get_or}
use Rattle.std.proofs.lemmas.List.Sums.{sum_by-set}
use Rattle.std.proofs.Math.Seq.{take-set-lt}
use Rattle.std.proofs.Math.ListN.{set}
use Rattle.dp_telegram.specs.declared.fault.FrameFault.{FrameFault}
use Rattle.dp_telegram.specs.declared.fault.FrameFault.TheVariants.{NoStart, BadHead, BadEnd, Short, Long}
use Rattle.dp_telegram.specs.FrameText.{sd2, ed, body_at, check_sequence, delimiter, end_is_right, fault_of, first_fault, frame_length, head_is_right, head_length, is_checked, is_start}
use Rattle.cable_faults.specs.Whole.{HasNoFault}
use Rattle.cable_faults.specs.Treatments.{changed, no_start, sent_of, spoilt_treatment, spoilt_octet, spoilt_place}
use Rattle.cable_faults.proofs.Whole.{has_room, is_one_of_five, no_fault}

abbrev Rows : Bool → Bool → Bool → Bool → Bool → Bool → Bool → Option FrameFault
Rows a b c d e f g = first_fault ((a, Short) ∷ (not b, NoStart) ∷ (c, Short) ∷ (not d, BadHead) ∷ (e, Short) ∷ (not f, BadEnd) ∷ (g, Long) ∷ [])

bad_end : (a b c d e f g : Bool) → a ≡ false → b ≡ true → c ≡ false → d ≡ true → e ≡ false → f ≡ false → Rows a b c d e f g ≡ Some BadEnd
bad_end a b c d e f g p q r s t u = rw (p, q, r, s, t, u) refl

-- the head is the same if the octets before the body are
record HasSameHead (octets other : List ℕ) : Type 0 where
  start : delimiter other ≡ delimiter octets
  one : delimiter octets ≡ sd2 → get_or other 1 0 ≡ get_or octets 1 0
  two : delimiter octets ≡ sd2 → get_or other 2 0 ≡ get_or octets 2 0
  three : delimiter octets ≡ sd2 → get_or other 3 0 ≡ get_or octets 3 0

right_by : (octets other : List ℕ) (is_sd2 : Bool) → eqb (delimiter octets) sd2 ≡ is_sd2 → HasSameHead octets other → head_is_right other ≡ head_is_right octets
right_by octets other true is same =
    let e = eqb-true (delimiter octets) sd2 is in
    rw (same.start, same.one e, same.two e, same.three e) refl
right_by octets other false is same = rw (same.start, is) refl

length_by : (octets other : List ℕ) (is_sd2 : Bool) → eqb (delimiter octets) sd2 ≡ is_sd2 → HasSameHead octets other → frame_length other ≡ frame_length octets
length_by octets other true is same =
    let e = eqb-true (delimiter octets) sd2 is in
    rw (same.start, same.one e) refl
length_by octets other false is same = rw (same.start, is) refl

-- an octet behind the head
same_head : (octets : List ℕ) (place octet : ℕ) → head_length octets ≤ place → 1 ≤ place → HasSameHead octets (set octets place octet)
same_head octets place octet behind some = record {
  start = get_or-set_other octets place 0 octet 0 (λ e. absurd (omega arith));
  one = λ sd. get_or-set_other octets place 1 octet 0 (λ e. absurd (let h : head_length octets ≡ 4 = rw sd refl in omega arith));
  two = λ sd. get_or-set_other octets place 2 octet 0 (λ e. absurd (let h : head_length octets ≡ 4 = rw sd refl in omega arith));
  three = λ sd. get_or-set_other octets place 3 octet 0 (λ e. absurd (let h : head_length octets ≡ 4 = rw sd refl in omega arith));
}

least_head : (octets : List ℕ) → 1 ≤ head_length octets
least_head octets = elim (cases_Bool (eqb (delimiter octets) sd2)) [ inl e ↦ rw e (omega arith) | inr e ↦ rw e (omega arith) ]

-- ---- the octets that the check sequence covers

-- another octet changes their sum
other_sum : (s t old new : ℕ) → t + old ≡ s + new → new ≢ old → old < 256 → new < 256 → (s % 256) ≢ (t % 256)
other_sum s t old new sums differ small less same = differ (omega arith)

sum_differs : (body : List ℕ) (at octet : ℕ) → at < length body → octet ≢ get_or body at 0 → get_or body at 0 < 256 → octet < 256
    → check_sequence body ≢ check_sequence (set body at octet)
sum_differs body at octet within differ small less =
    other_sum (sum body) (sum (set body at octet)) (get_or body at 0) octet (sum_by-set (λ x. x) body at octet 0 within) differ small less

-- the body of a telegram with another octet at this place of it
body_with : (octets : List ℕ) (head at end octet : ℕ) → head + at < end → slice_range (set octets (head + at) octet) head end ≡ set (slice_range octets head end) at octet
body_with octets head at end octet within =
    ap (λ (l : List ℕ). take (end - head) l) (drop-set-add head octets at octet) ∙ take-set-lt (end - head) (drop head octets) at octet (omega arith)

-- an octet behind the body changes nothing of it
body_before : (octets : List ℕ) (head many octet : ℕ) → slice_range (set octets (head + many) octet) head (head + many) ≡ slice_range octets head (head + many)
body_before octets head many octet =
    let size : head + many - head ≡ many = omega arith in
    rw size (ap (λ (l : List ℕ). take many l) (drop-set-add head octets many octet) ∙ take-set (drop head octets) many octet)

-- the octet is the check octet, behind the body
end_check : (octets : List ℕ) (head many octet : ℕ) → length octets ≡ head + many + 2
    → get_or octets (head + many) 0 ≡ check_sequence (slice_range octets head (head + many))
    → octet ≢ get_or octets (head + many) 0
    → get_or (set octets (head + many) octet) (head + many) 0 ≢ check_sequence (slice_range (set octets (head + many) octet) head (head + many))
end_check octets head many octet size right differ same =
    let there : get_or (set octets (head + many) octet) (head + many) 0 ≡ octet = get_or-set_same octets (head + many) octet 0 (omega arith) in
    let body = body_before octets head many octet in
    differ (sym there ∙ same ∙ ap check_sequence body ∙ sym right)

-- the octet is one of the body
end_body : (octets : List ℕ) (head at many octet : ℕ) → length octets ≡ head + many + 2 → at < many
    → get_or octets (head + many) 0 ≡ check_sequence (slice_range octets head (head + many))
    → octet ≢ get_or octets (head + at) 0 → get_or octets (head + at) 0 < 256 → octet < 256
    → get_or (set octets (head + at) octet) (head + many) 0 ≢ check_sequence (slice_range (set octets (head + at) octet) head (head + many))
end_body octets head at many octet size before right differ small less same =
    let there : get_or (set octets (head + at) octet) (head + many) 0 ≡ get_or octets (head + many) 0
    = get_or-set_other octets (head + at) (head + many) octet 0 (λ e. absurd (omega arith)) in
    let body = body_with octets head at (head + many) octet (omega arith) in
    let count : length (slice_range octets head (head + many)) ≡ many = simp (length-take, length-drop) (omega arith) in
    let at_of_body : get_or (slice_range octets head (head + many)) at 0 ≡ get_or octets (head + at) 0 = grind (arith, common_steps, before) in
    sum_differs (slice_range octets head (head + many)) at octet (omega (arith, count)) (λ e. differ (e ∙ at_of_body)) (omega (arith, at_of_body)) less
    (sym right ∙ sym there ∙ same ∙ ap check_sequence body)

end_by : (octets : List ℕ) (head at many octet : ℕ) → length octets ≡ head + many + 2 → at ≤ many
    → get_or octets (head + many) 0 ≡ check_sequence (slice_range octets head (head + many))
    → octet ≢ get_or octets (head + at) 0 → get_or octets (head + at) 0 < 256 → octet < 256
    → (at < many) ⊎ (many ≤ at)
    → get_or (set octets (head + at) octet) (head + many) 0 ≢ check_sequence (slice_range (set octets (head + at) octet) head (head + many))
end_by octets head at many octet size most right differ small less (inl before) = end_body octets head at many octet size before right differ small less
end_by octets head at many octet size most right differ small less (inr behind) =
    let e : many ≡ at = omega arith in
    let P : ℕ → Type 0 = λ k. octet ≢ get_or octets (head + k) 0
    → get_or (set octets (head + k) octet) (head + many) 0 ≢ check_sequence (slice_range (set octets (head + k) octet) head (head + many)) in
    subst P e (end_check octets head many octet size right) differ

end_false : (octets : List ℕ) → is_checked octets ≡ true → get_or octets (frame_length octets - 2) 0 ≢ check_sequence (body_at octets) → end_is_right octets ≡ false
end_false octets checked differ = rw (checked, ne_eqb _ _ differ) refl

and_left : (a b c : Bool) → (not a || b && c) ≡ true → a ≡ true → b ≡ true
and_left false b c h e = absurd cc
and_left true false c h e = absurd cc
and_left true true c h e = refl

end_true : (octets : List ℕ) → is_checked octets ≡ true → end_is_right octets ≡ true → get_or octets (frame_length octets - 2) 0 ≡ check_sequence (body_at octets)
end_true octets checked right =
    eqb-true _ _ (and_left (is_checked octets) (eqb (get_or octets (frame_length octets - 2) 0) (check_sequence (body_at octets)))
    (eqb (get_or octets (frame_length octets - 1) 0) ed) right checked)

-- the same, by the size of the telegram
abbrev EndsRight : List ℕ → ℕ → ℕ → Type 0
EndsRight octets head size = get_or octets (size - 2) 0 ≡ check_sequence (slice_range octets head (size - 2))

end_differs : (octets : List ℕ) (head at many octet : ℕ) → HasNoFault octets → is_checked octets ≡ true → head ≡ head_length octets
    → length octets ≡ head + many + 2 → at ≤ many
    → octet ≢ get_or octets (head + at) 0 → get_or octets (head + at) 0 < 256 → octet < 256 → end_is_right (set octets (head + at) octet) ≡ false
end_differs octets head at many octet whole checked from size most differ small less =
    let other = set octets (head + at) octet in
    let some : 1 ≤ head_length octets = least_head octets in
    let same = same_head octets (head + at) octet (omega arith) (omega arith) in
    let frame : frame_length octets ≡ length octets = sym whole.whole in
    let last : frame_length octets - 2 ≡ head + many = omega arith in
    let long : frame_length other ≡ frame_length octets = length_by octets other (eqb (delimiter octets) sd2) refl same in
    let right : EndsRight octets (head_length octets) (frame_length octets) = end_true octets checked whole.ends in
    let R : ℕ → ℕ → Type 0 = λ h e. get_or octets e 0 ≡ check_sequence (slice_range octets h e) in
    let S : ℕ → Type 0 = λ h. R h (frame_length octets - 2) in
    let right_at : R head (head + many) = subst (R head) last (subst S (sym from) right) in
    let start : delimiter other ≡ delimiter octets = same.start in
    let head_is : head_length other ≡ head = rw (start, from) refl in
    let last_is : frame_length other - 2 ≡ head + many = rw long last in
    let wrong = end_by octets head at many octet size most right_at differ small less (cases_lt at many) in
    let P : ℕ → ℕ → Type 0 = λ h e. get_or other e 0 ≢ check_sequence (slice_range other h e) in
    let Q : ℕ → Type 0 = λ h. P h (frame_length other - 2) in
    end_false other (rw start checked) (subst Q (sym head_is) (subst (P head) (sym last_is) wrong))

-- ---- a telegram with a check sequence

spoilt_at : (octets : List ℕ) (head at many octet : ℕ) → HasNoFault octets → is_checked octets ≡ true → head ≡ head_length octets
    → length octets ≡ head + many + 2 → at ≤ many
    → octet ≢ get_or octets (head + at) 0 → get_or octets (head + at) 0 < 256 → octet < 256 → fault_of (set octets (head + at) octet) ≡ Some BadEnd
spoilt_at octets head at many octet whole checked from size most differ small less =
    let other = set octets (head + at) octet in
    let some : 1 ≤ head_length octets = least_head octets in
    let same = same_head octets (head + at) octet (omega arith) (omega arith) in
    let count : length other ≡ length octets = length-set octets (head + at) octet in
    let start : delimiter other ≡ delimiter octets = same.start in
    let long : frame_length other ≡ frame_length octets = length_by octets other (eqb (delimiter octets) sd2) refl same in
    let right : head_is_right other ≡ head_is_right octets = right_by octets other (eqb (delimiter octets) sd2) refl same in
    let head_is : head_length other ≡ head_length octets = rw start refl in
    let all : frame_length octets ≡ length octets = sym whole.whole in
    bad_end (ltb (length other) 1) (is_start (delimiter other)) (ltb (length other) (head_length other)) (head_is_right other)
    (ltb (length other) (frame_length other)) (end_is_right other) (ltb (frame_length other) (length other))
    (le-ltb _ _ (omega (arith, count))) (ap is_start start ∙ whole.start) (le-ltb _ _ (omega (arith, count, head_is, whole.there))) (right ∙ whole.head)
    (le-ltb _ _ (omega (arith, count, long, all))) (end_differs octets head at many octet whole checked from size most differ small less)

changed_differs : (octet word : ℕ) → octet < 256 → changed octet word ≢ octet
changed_differs octet word small same = absurd (omega arith)

changed_small : (octet word : ℕ) → changed octet word < 256
changed_small octet word = omega arith

pub spoilt_checked : (octets : List ℕ) (place change : ℕ) → fault_of octets ≡ None → All (λ octet. octet < 256) octets
    → is_checked octets ≡ true → fault_of (sent_of (spoilt_treatment octets place change) octets) ≡ Some BadEnd
spoilt_checked octets place change none all checked =
    let whole = no_fault octets none in
    let room = has_room octets whole checked in
    let head = head_length octets in
    let many : ℕ = length octets - 2 - head in
    let at : ℕ = place % (length octets - 1 - head) in
    let most : at ≤ many = omega arith in
    let size : length octets ≡ head + many + 2 = omega arith in
    let inside : head + at < length octets = omega arith in
    let small : get_or octets (head + at) 0 < 256 = All-get_or (λ octet. octet < 256) octets (head + at) 0 inside all in
    let place_is : spoilt_place octets place ≡ head + at = rw checked refl in
    let octet_is : (p : ℕ) → spoilt_octet octets p change ≡ changed (get_or octets p 0) change = λ p. rw checked refl in
    let P : ℕ → ℕ → Type 0 = λ p o. fault_of (set octets p o) ≡ Some BadEnd in
    let Q : ℕ → Type 0 = λ p. P p (spoilt_octet octets p change) in
    subst Q (sym place_is) (subst (P (head + at)) (sym (octet_is (head + at)))
    (spoilt_at octets head at many (changed (get_or octets (head + at) 0) change) whole checked refl size most
    (changed_differs _ change small) small (changed_small _ change)))

-- ---- a telegram without one

no_start_is_none : (octet : ℕ) → is_start (no_start octet) ≡ false
no_start_is_none octet = elim (cases_Bool (is_start octet)) [
  | inl e ↦ elim (is_one_of_five octet e) [
    | inl d ↦ rw d refl
    | inr (inl d) ↦ rw d refl
    | inr (inr (inl d)) ↦ rw d refl
    | inr (inr (inr (inl d))) ↦ rw d refl
    | inr (inr (inr (inr d))) ↦ rw d refl
  ]
  | inr e ↦ rw (e, e) refl
]

starts_no_frame : (octets : List ℕ) → 1 ≤ length octets → is_start (delimiter octets) ≡ false → fault_of octets ≡ Some NoStart
starts_no_frame octets some start = rw (le-ltb (length octets) 1 some, start) refl

pub spoilt_unchecked : (octets : List ℕ) (place change : ℕ) → fault_of octets ≡ None → All (λ octet. octet < 256) octets
    → is_checked octets ≡ false → fault_of (sent_of (spoilt_treatment octets place change) octets) ≡ Some NoStart
spoilt_unchecked octets place change none all unchecked =
    let whole = no_fault octets none in
    let place_is : spoilt_place octets place ≡ 0 = rw unchecked refl in
    let octet_is : (p : ℕ) → spoilt_octet octets p change ≡ no_start (changed (get_or octets p 0) change) = λ p. rw unchecked refl in
    let P : ℕ → ℕ → Type 0 = λ p o. fault_of (set octets p o) ≡ Some NoStart in
    let Q : ℕ → Type 0 = λ p. P p (spoilt_octet octets p change) in
    let first = no_start (changed (get_or octets 0 0) change) in
    subst Q (sym place_is) (subst (P 0) (sym (octet_is 0))
    (starts_no_frame (set octets 0 first) (omega (arith, length-set octets 0 first, whole.some))
    (ap is_start (get_or-set_same octets 0 first 0 (omega (arith, whole.some))) ∙ no_start_is_none (changed (get_or octets 0 0) change))))
