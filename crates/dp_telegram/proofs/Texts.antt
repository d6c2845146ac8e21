-- The texts of frames, and what they are read as.
use Rattle.std.proofs.Common.{◌≡◌, ℕ, ◌+◌, ◌-◌, ◌≤◌, ◌⊎◌, inl, inr, Bool, true, false, not, ◌&&◌, eqb, ltb, leb, List, [], ◌∷◌, ◌++◌, length, take, drop, get_or, Option, Some, None, Ok, Err, ◌↔◌, refl, sym, ap, subst, ◌∙◌, arith}
use Rattle.std.specs.Result.{result_ok}
use Rattle.std.specs.Prelude.{slice_range, is_none, if◌then◌else◌}
use Rattle.std.proofs.lemmas.Grind.{common_steps}
use Rattle.std.proofs.lemmas.Bool.{ltb-false, eqb-true, not-false, and_parts, leb-true, cases_eq, eq-eqb, ne_eqb}
use Rattle.std.proofs.lemmas.List.{take-append-drop, length-take, length-drop, length-append, drop_more, nil_from_length, get_or-append_right}
use Rattle.std.proofs.lemmas.List.Folds.{drop_split}
use Rattle.std.proofs.Math.Seq.{take-append_seam}
use Rattle.dp_telegram.specs.declared.fault.FrameFault.{FrameFault}
use Rattle.dp_telegram.specs.declared.fault.FrameFault.TheVariants.{NoStart, BadHead, BadEnd, Short, Long}
use Rattle.dp_telegram.specs.declared.frame.Telegram.{Telegram}
use Rattle.dp_telegram.specs.declared.frame.Frame.{Frame}
use Rattle.dp_telegram.specs.declared.frame.Frame.TheVariants as frames
use Rattle.dp_telegram.specs.FrameText.{sd1, sd2, sd3, sd4, sc, ed, body_of, check_sequence, checked, sd1_text, sd2_text, sd3_text, reading_of, Spells, fault_of, first_fault, frame_at, frame_length, head_length, head_is_right, end_is_right, is_start, delimiter, telegram_in, unless_faulty, frame_of, text_of}

-- the texts of a telegram are read as that telegram
sd1_reads : (t : Telegram) → length t.du.items ≡ 0 → reading_of (sd1_text t) ≡ Ok (frames.Telegram t)
sd1_reads t none = grind (arith, common_steps)

sd2_reads : (t : Telegram) → 1 ≤ length t.du.items → length t.du.items ≤ 246 → reading_of (sd2_text t) ≡ Ok (frames.Telegram t)
sd2_reads t least most = grind (arith, common_steps)

sd3_reads : (t : Telegram) → length t.du.items ≡ 8 → reading_of (sd3_text t) ≡ Ok (frames.Telegram t)
sd3_reads t eight =
    let tail : List ℕ = check_sequence (body_of t) ∷ ed ∷ [] in
    let body : take 8 (t.du.items ++ check_sequence (body_of t) ∷ ed ∷ []) ≡ t.du.items = rw (sym eight) (take-append_seam t.du.items (check_sequence (body_of t) ∷ ed ∷ [])) in
    let fcs : get_or (t.du.items ++ check_sequence (body_of t) ∷ ed ∷ []) 8 0 ≡ check_sequence (body_of t) = get_or-append_right t.du.items (check_sequence (body_of t) ∷ ed ∷ []) 8 8 0 eight (omega arith) in
    let end : get_or (t.du.items ++ check_sequence (body_of t) ∷ ed ∷ []) 9 0 ≡ ed = get_or-append_right t.du.items (check_sequence (body_of t) ∷ ed ∷ []) 8 9 0 eight (omega arith) in
    grind (arith, common_steps, body, fcs, end)

pub Spells-reading : (octets : List ℕ) (frame : Frame) → Spells octets frame → reading_of octets ≡ Ok frame
Spells-reading octets (frames.Token da sa) spelt = ap reading_of spelt
Spells-reading octets frames.Ack spelt = ap reading_of spelt
Spells-reading octets (frames.Telegram t) (inl h) = ap reading_of h.0 ∙ sd1_reads t h.1
Spells-reading octets (frames.Telegram t) (inr (inl h)) = ap reading_of h.0 ∙ sd2_reads t h.1 h.2
Spells-reading octets (frames.Telegram t) (inr (inr h)) = ap reading_of h.0 ∙ sd3_reads t h.1

-- octets with no fault
record NoFault (octets : List ℕ) : Type 0 where
  some : 1 ≤ length octets
  start : is_start (delimiter octets) ≡ true
  head : head_length octets ≤ length octets
  right : head_is_right octets ≡ true
  size : length octets ≡ frame_length octets
  ending : end_is_right octets ≡ true

rows_off : (a b c d e f g : Bool) (t u v w x y z : FrameFault) → first_fault ((a, t) ∷ (b, u) ∷ (c, v) ∷ (d, w) ∷ (e, x) ∷ (f, y) ∷ (g, z) ∷ []) ≡ None
    → (a ≡ false) × (b ≡ false) × (c ≡ false) × (d ≡ false) × (e ≡ false) × (f ≡ false) × (g ≡ false)
rows_off true b c d e f g t u v w x y z h = absurd cc
rows_off false true c d e f g t u v w x y z h = absurd cc
rows_off false false true d e f g t u v w x y z h = absurd cc
rows_off false false false true e f g t u v w x y z h = absurd cc
rows_off false false false false true f g t u v w x y z h = absurd cc
rows_off false false false false false true g t u v w x y z h = absurd cc
rows_off false false false false false false true t u v w x y z h = absurd cc
rows_off false false false false false false false t u v w x y z h = (refl, refl, refl, refl, refl, refl, refl)

no_fault : (octets : List ℕ) → fault_of octets ≡ None → NoFault octets
no_fault octets e =
    let rows = rows_off (ltb (length octets) 1) (not (is_start (delimiter octets))) (ltb (length octets) (head_length octets)) (not (head_is_right octets))
    (ltb (length octets) (frame_length octets)) (not (end_is_right octets)) (ltb (frame_length octets) (length octets)) Short NoStart Short BadHead Short BadEnd Long e in
    let low = ltb-false (length octets) (frame_length octets) rows.4 in
    let high = ltb-false (frame_length octets) (length octets) rows.6 in
    record {
      some = ltb-false (length octets) 1 rows.0;
      start = not-false (is_start (delimiter octets)) rows.1;
      head = ltb-false (length octets) (head_length octets) rows.2;
      right = not-false (head_is_right octets) rows.3;
      size = omega (arith, low, high);
      ending = not-false (end_is_right octets) rows.5;
    }

sound : (fault : Option FrameFault) (x y : Frame) → unless_faulty fault x ≡ Ok y → (fault ≡ None) × (x ≡ y)
sound None x y e = (refl, cc)
sound (Some fault) x y e = absurd cc

verdict_is : (verdict : Option FrameFault) (x : Frame) (fault : FrameFault) → (unless_faulty verdict x ≡ Err fault) ↔ (verdict ≡ Some fault)
verdict_is None x fault = (λ e. absurd cc, λ e. absurd cc)
verdict_is (Some other) x fault = (λ e. cc, λ e. cc)

verdict_ok : (verdict : Option FrameFault) (x : Frame) → result_ok (unless_faulty verdict x) ≡ (if is_none verdict then Some x else None)
verdict_ok None x = refl
verdict_ok (Some fault) x = refl

-- what is read is the frame that the octets spell
pub result_ok-reading_of : (octets : List ℕ) → result_ok (reading_of octets) ≡ frame_of octets
result_ok-reading_of octets = verdict_ok (fault_of octets) (frame_at octets)

-- an error is the fault of the octets
pub fault_is : (octets : List ℕ) (fault : FrameFault) → (reading_of octets ≡ Err fault) ↔ (fault_of octets ≡ Some fault)
fault_is octets fault = verdict_is (fault_of octets) (frame_at octets) fault

-- what stands before the body, the body, its check sequence and the end delimiter are all there is
assembled : (octets : List ℕ) (head end : ℕ) → head ≤ end → length octets ≡ end + 2 → get_or octets end 0 ≡ check_sequence (slice_range octets head end) → get_or octets (end + 1) 0 ≡ ed → octets ≡ take head octets ++ checked (slice_range octets head end)
assembled octets head end le len fcs last =
    let nothing : drop (end + 1 + 1) octets ≡ [] = nil_from_length _ (simp length-drop (omega arith)) in
    let second : drop (end + 1) octets ≡ get_or octets (end + 1) 0 ∷ drop (end + 1 + 1) octets = drop_more octets (end + 1) 0 (omega arith) in
    let first : drop end octets ≡ get_or octets end 0 ∷ drop (end + 1) octets = drop_more octets end 0 (omega arith) in
    let middle = drop_split octets head end le in
    let whole = take-append-drop head octets in
    cc

telegram_body : (body : List ℕ) → 3 ≤ length body → body_of (telegram_in body) ≡ body
telegram_body [] least = absurd (omega arith)
telegram_body (a ∷ []) least = absurd (omega arith)
telegram_body (a ∷ b ∷ []) least = absurd (omega arith)
telegram_body (a ∷ b ∷ c ∷ rest) least = refl

-- a telegram with a body of at least DA, SA and FC is its head and that body, checked
telegram_spelt : (octets : List ℕ) (head end : ℕ) → head + 3 ≤ end → length octets ≡ end + 2
    → get_or octets end 0 ≡ check_sequence (slice_range octets head end) → get_or octets (end + 1) 0 ≡ ed
    → octets ≡ take head octets ++ checked (body_of (telegram_in (slice_range octets head end)))
telegram_spelt octets head end least len fcs last =
    let long : 3 ≤ length (slice_range octets head end) = simp (length-take, length-drop) (omega arith) in
    assembled octets head end (omega arith) len fcs last ∙ ap (λ (body : List ℕ). take head octets ++ checked body) (sym (telegram_body (slice_range octets head end) long))

data_length : (octets : List ℕ) (head end : ℕ) → head + 3 ≤ end → length octets ≡ end + 2 → length (drop 3 (slice_range octets head end)) + (head + 3) ≡ end
data_length octets head end least len = simp (length-drop, length-take, length-drop) (omega arith)

body_length : (octets : List ℕ) (head end : ℕ) → head + 3 ≤ end → length octets ≡ end + 2 → length (body_of (telegram_in (slice_range octets head end))) + head ≡ end
body_length octets head end least len = omega (arith, data_length octets head end least len)

-- a telegram that is read is spelled so, by its start delimiter
sd1_spelt : (rest : List ℕ) → NoFault (sd1 ∷ rest) → Spells (sd1 ∷ rest) (frame_at (sd1 ∷ rest))
sd1_spelt rest free =
    let ends = and_parts (eqb (get_or rest 3 0) (check_sequence (slice_range (sd1 ∷ rest) 1 4))) (eqb (get_or rest 4 0) ed) free.ending in
    inl (
      telegram_spelt (sd1 ∷ rest) 1 4 (omega arith) free.size (eqb-true _ _ ends.0) (eqb-true _ _ ends.1),
      omega (arith, data_length (sd1 ∷ rest) 1 4 (omega arith) free.size),
    )

sd2_head : (body : List ℕ) (a b c : ℕ) → length body ≡ a → a ≡ b → c ≡ sd2
    → sd2 ∷ a ∷ b ∷ c ∷ checked body ≡ sd2 ∷ length body ∷ length body ∷ sd2 ∷ checked body
sd2_head body a b c len again start = cc

sd2_spelt : (rest : List ℕ) → NoFault (sd2 ∷ rest) → Spells (sd2 ∷ rest) (frame_at (sd2 ∷ rest))
sd2_spelt [] free = absurd (omega arith)
sd2_spelt (a ∷ []) free = absurd (omega arith)
sd2_spelt (a ∷ b ∷ []) free = absurd (omega arith)
sd2_spelt (a ∷ b ∷ c ∷ rest) free =
    let three = and_parts (leb 4 a && leb a 249 && eqb a b) (eqb c sd2) free.right in
    let two = and_parts (leb 4 a && leb a 249) (eqb a b) three.0 in
    let one = and_parts (leb 4 a) (leb a 249) two.0 in
    let least = leb-true 4 a one.0 in
    let most = leb-true a 249 one.1 in
    let again = eqb-true a b two.1 in
    let start = eqb-true c sd2 three.1 in
    let ends = and_parts (eqb (get_or (sd2 ∷ a ∷ b ∷ c ∷ rest) (a + 6 - 2) 0) (check_sequence (slice_range (sd2 ∷ a ∷ b ∷ c ∷ rest) 4 (a + 6 - 2)))) (eqb (get_or (sd2 ∷ a ∷ b ∷ c ∷ rest) (a + 6 - 1) 0) ed) free.ending in
    let next : a + 6 - 1 ≡ a + 6 - 2 + 1 = omega arith in
    let last : get_or (sd2 ∷ a ∷ b ∷ c ∷ rest) (a + 6 - 2 + 1) 0 ≡ ed = ap (λ k. get_or (sd2 ∷ a ∷ b ∷ c ∷ rest) k 0) (sym next) ∙ eqb-true _ _ ends.1 in
    let size : length (sd2 ∷ a ∷ b ∷ c ∷ rest) ≡ a + 6 - 2 + 2 = omega (arith, free.size) in
    let room : 4 + 3 ≤ a + 6 - 2 = omega arith in
    let whole = telegram_spelt (sd2 ∷ a ∷ b ∷ c ∷ rest) 4 (a + 6 - 2) room size (eqb-true _ _ ends.0) last in
    let body = body_length (sd2 ∷ a ∷ b ∷ c ∷ rest) 4 (a + 6 - 2) room size in
    let counted = data_length (sd2 ∷ a ∷ b ∷ c ∷ rest) 4 (a + 6 - 2) room size in
    inr (inl (
      whole ∙ sd2_head (body_of (telegram_in (slice_range (sd2 ∷ a ∷ b ∷ c ∷ rest) 4 (a + 6 - 2)))) a b c (omega (arith, body)) again start,
      omega (arith, counted),
      omega (arith, counted),
    ))

sd3_spelt : (rest : List ℕ) → NoFault (sd3 ∷ rest) → Spells (sd3 ∷ rest) (frame_at (sd3 ∷ rest))
sd3_spelt rest free =
    let ends = and_parts (eqb (get_or rest 11 0) (check_sequence (slice_range (sd3 ∷ rest) 1 12))) (eqb (get_or rest 12 0) ed) free.ending in
    inr (inr (
      telegram_spelt (sd3 ∷ rest) 1 12 (omega arith) free.size (eqb-true _ _ ends.0) (eqb-true _ _ ends.1),
      omega (arith, data_length (sd3 ∷ rest) 1 12 (omega arith) free.size),
    ))

sd4_spelt : (rest : List ℕ) → NoFault (sd4 ∷ rest) → Spells (sd4 ∷ rest) (frame_at (sd4 ∷ rest))
sd4_spelt [] free = absurd (omega arith)
sd4_spelt (a ∷ []) free = absurd (omega arith)
sd4_spelt (a ∷ b ∷ []) free = refl
sd4_spelt (a ∷ b ∷ c ∷ rest) free = absurd (omega arith)

sc_spelt : (rest : List ℕ) → NoFault (sc ∷ rest) → Spells (sc ∷ rest) (frame_at (sc ∷ rest))
sc_spelt [] free = refl
sc_spelt (a ∷ rest) free = absurd (omega arith)

pub is_one_of_five : (d : ℕ) → is_start d ≡ true → (d ≡ sd1) ⊎ (d ≡ sd2) ⊎ (d ≡ sd3) ⊎ (d ≡ sd4) ⊎ (d ≡ sc)
is_one_of_five d e = grind (arith, common_steps)

free_spelt : (octets : List ℕ) → NoFault octets → Spells octets (frame_at octets)
free_spelt [] free = absurd (omega arith)
free_spelt (d ∷ rest) free =
    let P : ℕ → Type 0 = λ x. NoFault (x ∷ rest) → Spells (x ∷ rest) (frame_at (x ∷ rest)) in
    elim (is_one_of_five d free.start) [
      | inl e ↦ subst P (sym e) (sd1_spelt rest) free
      | inr (inl e) ↦ subst P (sym e) (sd2_spelt rest) free
      | inr (inr (inl e)) ↦ subst P (sym e) (sd3_spelt rest) free
      | inr (inr (inr (inl e))) ↦ subst P (sym e) (sd4_spelt rest) free
      | inr (inr (inr (inr e))) ↦ subst P (sym e) (sc_spelt rest) free
    ]

pub reading-Spells : (octets : List ℕ) (frame : Frame) → reading_of octets ≡ Ok frame → Spells octets frame
reading-Spells octets frame read =
    let parts = sound (fault_of octets) (frame_at octets) frame read in
    subst (Spells octets) parts.1 (free_spelt octets (no_fault octets parts.0))

-- a frame whose data unit fits a telegram is read back from its text
abbrev pub FitsTelegram : Frame → Type 0
FitsTelegram (frames.Token da sa) = Unit {0}
FitsTelegram frames.Ack = Unit {0}
FitsTelegram (frames.Telegram t) = length t.du.items ≤ 246

pub text_reads : (frame : Frame) → FitsTelegram frame → reading_of (text_of frame) ≡ Ok frame
text_reads (frames.Token da sa) fits = refl
text_reads frames.Ack fits = refl
text_reads (frames.Telegram t) fits = elim (cases_eq (length t.du.items) 0) [
  | inl e ↦ rw (eq-eqb _ _ e) (sd1_reads t e)
  | inr ne ↦ rw (ne_eqb _ _ ne) (sd2_reads t (omega arith) fits)
]

found_is_read : (fault : Option FrameFault) (x y : Frame) → (if is_none fault then Some x else None) ≡ Some y → unless_faulty fault x ≡ Ok y
found_is_read None x y e = cc
found_is_read (Some fault) x y e = absurd cc

-- the relation agrees with the computed definition
pub Spells-frame_of : (octets : List ℕ) (frame : Frame) → Spells octets frame ↔ (frame_of octets ≡ Some frame)
Spells-frame_of octets frame = (
  λ spelt. let read = sound (fault_of octets) (frame_at octets) frame (Spells-reading octets frame spelt) in grind (arith, read.0, read.1),
  λ found. reading-Spells octets frame (found_is_read (fault_of octets) (frame_at octets) frame found),
)

text_is_free : (text : List ℕ) (frame : Frame) → Spells text frame → NoFault text
text_is_free text frame spelt = no_fault text (sound (fault_of text) (frame_at text) frame (Spells-reading text frame spelt)).0

free_ends : (text more : List ℕ) → NoFault text → NoFault (text ++ more) → more ≡ []
free_ends [] more short long = absurd (omega arith)
free_ends (d ∷ []) [] short long = refl
free_ends (d ∷ []) (m ∷ more) short long = grind (arith, short.size, long.size, short.head, short.start)
free_ends (d ∷ a ∷ rest) more short long = nil_from_length more (omega (arith, short.size, long.size, length-append rest more))

pub no_text_begins : (text more : List ℕ) (frame other : Frame) → Spells text frame → Spells (text ++ more) other → more ≡ []
no_text_begins text more frame other short long = free_ends text more (text_is_free text frame short) (text_is_free (text ++ more) other long)
