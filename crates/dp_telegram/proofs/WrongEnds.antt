-- A whole frame with a wrong end, by positions and by layout.
use Rattle.std.proofs.Common.{◌≡◌, ◌≢◌, ℕ, ◌+◌, ◌-◌, ◌≤◌, ◌⊎◌, inl, inr, false, ◌&&◌, eqb, leb, List, [], ◌∷◌, ◌++◌, length, take, drop, get_or, refl, sym, ap, subst, ◌∙◌, arith}
use Rattle.std.specs.Prelude.{◌↔◌, slice_range}
use Rattle.std.proofs.lemmas.Grind.{common_steps}
use Rattle.std.proofs.lemmas.Bool.{eqb-true, and_parts, leb-true, eq-eqb, ne_eqb, cases_Bool, cases_eq}
use Rattle.std.proofs.lemmas.List.{take-append-drop, length-append, length-take, length-drop, drop_more, nil_from_length, append_assoc, get_or-append_right}
use Rattle.std.proofs.Math.Seq.{take-append_seam}
use Rattle.std.proofs.lemmas.List.Folds.{drop_split}
use Rattle.dp_telegram.specs.FrameText.{sd1, sd2, sd3, sd4, sc, ed, check_sequence, end_is_right}
use Rattle.dp_telegram.specs.Stream.{IsWhole, IsHead, HasWrongEnd}
use Rattle.dp_telegram.proofs.Texts.{is_one_of_five}

-- one of the two tests fails exactly if one of the two octets differs
ends_differ : (a b c d : ℕ) → (eqb a b && eqb c d) ≡ false → (a ≢ b) ⊎ (c ≢ d)
ends_differ a b c d e = elim (cases_eq a b) [
  | inl same ↦ inr (λ too. absurd (cc (eq-eqb a b same, eq-eqb c d too)))
  | inr differ ↦ inl differ
]

ends_fail : (a b c d : ℕ) → (a ≢ b) ⊎ (c ≢ d) → (eqb a b && eqb c d) ≡ false
ends_fail a b c d (inl differ) = rw (ne_eqb a b differ) refl
ends_fail a b c d (inr differ) = elim (cases_Bool (eqb a b)) [ inl e ↦ rw (e, ne_eqb c d differ) refl | inr e ↦ rw e refl ]

-- what stands before the body, the body, and two octets are all there is
parted : (octets : List ℕ) (head end : ℕ) → head ≤ end → length octets ≡ end + 2
    → octets ≡ take head octets ++ slice_range octets head end ++ get_or octets end 0 ∷ get_or octets (end + 1) 0 ∷ []
parted octets head end le len =
    let nothing : drop (end + 1 + 1) octets ≡ [] = nil_from_length _ (simp length-drop (omega arith)) in
    let second : drop (end + 1) octets ≡ get_or octets (end + 1) 0 ∷ drop (end + 1 + 1) octets = drop_more octets (end + 1) 0 (omega arith) in
    let first : drop end octets ≡ get_or octets end 0 ∷ drop (end + 1) octets = drop_more octets end 0 (omega arith) in
    let middle = drop_split octets head end le in
    let whole = take-append-drop head octets in
    let front = append_assoc (take head octets) (slice_range octets head end) (get_or octets end 0 ∷ get_or octets (end + 1) 0 ∷ []) in
    cc

body_size : (octets : List ℕ) (head end : ℕ) → head ≤ end → length octets ≡ end + 2 → length (slice_range octets head end) + head ≡ end
body_size octets head end le len = simp (length-take, length-drop) (omega arith)

-- by the layout, for each start delimiter
sd1_laid_out : (rest : List ℕ) → IsWhole (sd1 ∷ rest) → end_is_right (sd1 ∷ rest) ≡ false → HasWrongEnd (sd1 ∷ rest)
sd1_laid_out rest whole wrong = record {
  head = sd1 ∷ [];
  body = slice_range (sd1 ∷ rest) 1 4;
  check = get_or (sd1 ∷ rest) 4 0;
  last = get_or (sd1 ∷ rest) 5 0;
  laid_out = parted (sd1 ∷ rest) 1 4 (omega arith) whole.size;
  fits = inl (refl, omega (arith, body_size (sd1 ∷ rest) 1 4 (omega arith) whole.size));
  wrong = ends_differ _ _ _ _ wrong;
}

sd3_laid_out : (rest : List ℕ) → IsWhole (sd3 ∷ rest) → end_is_right (sd3 ∷ rest) ≡ false → HasWrongEnd (sd3 ∷ rest)
sd3_laid_out rest whole wrong = record {
  head = sd3 ∷ [];
  body = slice_range (sd3 ∷ rest) 1 12;
  check = get_or (sd3 ∷ rest) 12 0;
  last = get_or (sd3 ∷ rest) 13 0;
  laid_out = parted (sd3 ∷ rest) 1 12 (omega arith) whole.size;
  fits = inr (inr (refl, omega (arith, body_size (sd3 ∷ rest) 1 12 (omega arith) whole.size)));
  wrong = ends_differ _ _ _ _ wrong;
}

same_head : (a b c n : ℕ) → a ≡ n → a ≡ b → c ≡ sd2 → sd2 ∷ a ∷ b ∷ c ∷ [] ≡ sd2 ∷ n ∷ n ∷ sd2 ∷ []
same_head a b c n size again start = cc

sd2_laid_out : (rest : List ℕ) → IsWhole (sd2 ∷ rest) → end_is_right (sd2 ∷ rest) ≡ false → HasWrongEnd (sd2 ∷ rest)
sd2_laid_out [] whole wrong = let size = whole.size in absurd (omega arith)
sd2_laid_out (a ∷ []) whole wrong = let size = whole.size in absurd (omega arith)
sd2_laid_out (a ∷ b ∷ []) whole wrong = let size = whole.size in absurd (omega arith)
sd2_laid_out (a ∷ b ∷ c ∷ rest) whole wrong =
    let octets : List ℕ = sd2 ∷ a ∷ b ∷ c ∷ rest in
    let three = and_parts (leb 4 a && leb a 249 && eqb a b) (eqb c sd2) whole.head in
    let two = and_parts (leb 4 a && leb a 249) (eqb a b) three.0 in
    let one = and_parts (leb 4 a) (leb a 249) two.0 in
    let least = leb-true 4 a one.0 in
    let most = leb-true a 249 one.1 in
    let last : a + 6 - 1 ≡ a + 6 - 2 + 1 = omega arith in
    let size : length octets ≡ a + 6 - 2 + 2 = omega (arith, whole.size) in
    let room : 4 ≤ a + 6 - 2 = omega arith in
    let body = body_size octets 4 (a + 6 - 2) room size in
    let count : length (slice_range octets 4 (a + 6 - 2)) ≡ a = omega (arith, body) in
    record {
      head = sd2 ∷ a ∷ b ∷ c ∷ [];
      body = slice_range octets 4 (a + 6 - 2);
      check = get_or octets (a + 6 - 2) 0;
      last = get_or octets (a + 6 - 2 + 1) 0;
      laid_out = parted octets 4 (a + 6 - 2) room size;
      fits = inr (inl (same_head a b c _ (sym count) (eqb-true a b two.1) (eqb-true c sd2 three.1), omega (arith, count), omega (arith, count)));
      wrong = ends_differ _ _ _ _ (ap (λ (k : ℕ). eqb (get_or octets (a + 6 - 2) 0) (check_sequence (slice_range octets 4 (a + 6 - 2))) && eqb (get_or octets k 0) ed) (sym last) ∙ wrong);
    }

sd4_laid_out : (rest : List ℕ) → end_is_right (sd4 ∷ rest) ≡ false → HasWrongEnd (sd4 ∷ rest)
sd4_laid_out rest wrong = absurd cc

sc_laid_out : (rest : List ℕ) → end_is_right (sc ∷ rest) ≡ false → HasWrongEnd (sc ∷ rest)
sc_laid_out rest wrong = absurd cc

whole_laid_out : (octets : List ℕ) → IsWhole octets → end_is_right octets ≡ false → HasWrongEnd octets
whole_laid_out [] whole wrong = let start = whole.start in absurd cc
whole_laid_out (d ∷ rest) whole wrong =
    let P : ℕ → Type 0 = λ x. IsWhole (x ∷ rest) → end_is_right (x ∷ rest) ≡ false → HasWrongEnd (x ∷ rest) in
    elim (is_one_of_five d whole.start) [
      | inl e ↦ subst P (sym e) (sd1_laid_out rest) whole wrong
      | inr (inl e) ↦ subst P (sym e) (sd2_laid_out rest) whole wrong
      | inr (inr (inl e)) ↦ subst P (sym e) (sd3_laid_out rest) whole wrong
      | inr (inr (inr (inl e))) ↦ subst P (sym e) (λ w. sd4_laid_out rest) whole wrong
      | inr (inr (inr (inr e))) ↦ subst P (sym e) (λ w. sc_laid_out rest) whole wrong
    ]

-- a frame with this layout is whole by positions
IsWrong : List ℕ → Type 0
IsWrong octets = IsWhole octets × (end_is_right octets ≡ false)

sd1_places : (body : List ℕ) (check last : ℕ) → length body ≡ 3 → (check ≢ check_sequence body) ⊎ (last ≢ ed) → IsWrong (sd1 ∷ body ++ check ∷ last ∷ [])
unfolding IsWrong
sd1_places body check last three wrong =
    let covered : take 3 (body ++ check ∷ last ∷ []) ≡ body = rw (sym three) (take-append_seam body (check ∷ last ∷ [])) in
    let at_check : get_or (body ++ check ∷ last ∷ []) 3 0 ≡ check = get_or-append_right body (check ∷ last ∷ []) 3 3 0 three (omega arith) in
    let at_last : get_or (body ++ check ∷ last ∷ []) 4 0 ≡ last = get_or-append_right body (check ∷ last ∷ []) 3 4 0 three (omega arith) in
    (record { start = refl; head = refl; size = simp length-append (omega arith) }, rw (at_check, at_last, covered) (ends_fail check (check_sequence body) last ed wrong))

sd2_places : (body : List ℕ) (check last : ℕ) → 4 ≤ length body → length body ≤ 249 → (check ≢ check_sequence body) ⊎ (last ≢ ed)
    → IsWrong (sd2 ∷ length body ∷ length body ∷ sd2 ∷ body ++ check ∷ last ∷ [])
unfolding IsWrong
sd2_places body check last least most wrong =
    let failed = ends_fail check (check_sequence body) last ed wrong in
    (record { start = refl; head = grind (arith, common_steps); size = simp length-append (omega arith) }, grind (arith, common_steps, failed))

sd3_places : (body : List ℕ) (check last : ℕ) → length body ≡ 11 → (check ≢ check_sequence body) ⊎ (last ≢ ed) → IsWrong (sd3 ∷ body ++ check ∷ last ∷ [])
unfolding IsWrong
sd3_places body check last eleven wrong =
    let covered : take 11 (body ++ check ∷ last ∷ []) ≡ body = rw (sym eleven) (take-append_seam body (check ∷ last ∷ [])) in
    let at_check : get_or (body ++ check ∷ last ∷ []) 11 0 ≡ check = get_or-append_right body (check ∷ last ∷ []) 11 11 0 eleven (omega arith) in
    let at_last : get_or (body ++ check ∷ last ∷ []) 12 0 ≡ last = get_or-append_right body (check ∷ last ∷ []) 11 12 0 eleven (omega arith) in
    (record { start = refl; head = refl; size = simp length-append (omega arith) }, rw (at_check, at_last, covered) (ends_fail check (check_sequence body) last ed wrong))

places_by : (head body : List ℕ) (check last : ℕ) → IsHead head (length body) → (check ≢ check_sequence body) ⊎ (last ≢ ed) → IsWrong (head ++ body ++ check ∷ last ∷ [])
places_by head body check last (inl h) wrong = rw h.0 (sd1_places body check last h.1 wrong)
places_by head body check last (inr (inl h)) wrong = rw h.0 (sd2_places body check last h.1 h.2 wrong)
places_by head body check last (inr (inr h)) wrong = rw h.0 (sd3_places body check last h.1 wrong)

pub wrong_end : (octets : List ℕ) → (IsWhole octets × (end_is_right octets ≡ false)) ↔ HasWrongEnd octets
unfolding IsWrong
wrong_end octets = (
  λ whole. whole_laid_out octets whole.0 whole.1,
  λ laid. subst IsWrong (sym laid.laid_out) (places_by laid.head laid.body laid.check laid.last laid.fits laid.wrong),
)
