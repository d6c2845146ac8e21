-- The piece in front, as a relation and as judged.
use Rattle.std.proofs.Common.{◌≡◌, ℕ, ◌≤◌, true, false, eqb, List, [], ◌∷◌, ◌++◌, length, take, drop, Option, Some, None, refl, sym, ap, subst, ◌∙◌, arith}
use Rattle.std.specs.Prelude.{is_none, if◌then◌else◌, option_map}
use Rattle.std.proofs.lemmas.Grind.{common_steps}
use Rattle.std.proofs.lemmas.List.{take-append-drop, length-append, length-take-le, take_at, drop_at}
use Rattle.dp_telegram.specs.declared.fault.FrameFault.{FrameFault}
use Rattle.dp_telegram.specs.declared.fault.FrameFault.TheVariants.{NoStart, BadHead, BadEnd, Short, Long}
use Rattle.dp_telegram.specs.declared.frame.Frame.{Frame}
use Rattle.dp_telegram.specs.declared.cutter.Cut.{Cut}
use Rattle.dp_telegram.specs.declared.cutter.Cut.TheVariants as pieces
use Rattle.dp_telegram.specs.FrameText.{sd2, Spells, fault_of, frame_at, frame_length, head_length, head_is_right, end_is_right, is_start, delimiter}
use Rattle.dp_telegram.specs.Stream.{IsWhole, StartsWith, cut_length, piece_by, piece_of, first_cut}
use Rattle.dp_telegram.proofs.Texts.{Spells-frame_of}
use Rattle.dp_telegram.proofs.Faults.{frame_length_some, head_within_frame, head_length_some, delimiter_same, right_same, size_same, InFront, end_same, frame_same, Means, means, no_start_fault, bad_head_fault, bad_end_fault, whole_fault, piece_in_front}

-- what is read of a frame that stands in front
parts_found : (fault : Option FrameFault) (x y : Frame) → (if is_none fault then Some x else None) ≡ Some y → (fault ≡ None) × (x ≡ y)
parts_found None x y e = (refl, cc)
parts_found (Some fault) x y e = absurd cc

-- a text is a whole frame with a right end
record IsText (octets : List ℕ) (frame : Frame) : Type 0 where
  front : InFront octets
  ending : end_is_right octets ≡ true
  size : length octets ≡ frame_length octets
  read : frame_at octets ≡ frame

text_is : (octets : List ℕ) (frame : Frame) → Spells octets frame → IsText octets frame
text_is octets frame spelt =
    let found = parts_found (fault_of octets) (frame_at octets) frame ((Spells-frame_of octets frame).0 spelt) in
    let meant : Means octets None = subst (Means octets) found.0 (means octets) in
    record { front = meant.0; ending = meant.1; size = meant.2; read = found.1 }

-- what holds for the octets in front holds for all octets that begin with them
in_front_more : (octets more : List ℕ) → InFront octets → InFront (octets ++ more)
in_front_more octets more front =
    let some : 1 ≤ length octets = omega (arith, front.there, head_length_some octets) in
    let delimiter_is = delimiter_same octets more some in
    let head : head_length (octets ++ more) ≡ head_length octets = ap (λ (d : ℕ). if eqb d sd2 then 4 else 1) delimiter_is in
    let size = size_same octets more front.there in
    record {
      start = ap is_start delimiter_is ∙ front.start;
      there = omega (arith, head, front.there, length-append octets more);
      right = right_same octets more front.there ∙ front.right;
      room = omega (arith, size, front.room, length-append octets more);
    }

-- a piece, and what follows it
abbrev pub followed : List ℕ → Option Cut → Option (Cut × List ℕ)
followed s piece = option_map (λ cut. (cut, drop (cut_length cut) s)) piece

pub first_cut_is : (s : List ℕ) (cut : Cut) → piece_of s ≡ Some cut → first_cut s ≡ Some (cut, drop (cut_length cut) s)
first_cut_is s cut e = ap (followed s) e

-- a piece in front is the first cut
frame_first : (octets rest : List ℕ) (frame : Frame) → Spells octets frame → first_cut (octets ++ rest) ≡ Some (pieces.Frame frame (record { items = octets }), rest)
frame_first octets rest frame spelt =
    let text = text_is octets frame spelt in
    let same = frame_same octets rest text.front.there text.front.room in
    let size = size_same octets rest text.front.there in
    let front = in_front_more octets rest text.front in
    let ending = end_same octets rest text.front.there text.front.room ∙ text.ending in
    let text_taken : take (frame_length (octets ++ rest)) (octets ++ rest) ≡ octets = take_at octets rest _ (text.size ∙ sym size) in
    let piece : piece_of (octets ++ rest) ≡ Some (pieces.Frame frame (record { items = octets })) =
    piece_in_front (octets ++ rest) front ending
    ∙ ap (λ (f : Frame). Some (pieces.Frame f (record { items = take (frame_length (octets ++ rest)) (octets ++ rest) }))) (same ∙ text.read)
    ∙ ap (λ (o : List ℕ). Some (pieces.Frame frame (record { items = o }))) text_taken in
    first_cut_is (octets ++ rest) (pieces.Frame frame (record { items = octets })) piece
    ∙ ap (λ (o : List ℕ). Some (pieces.Frame frame (record { items = octets }), o)) (drop_at octets rest (length octets) refl)

no_start_first : (octet : ℕ) (rest : List ℕ) → is_start octet ≡ false → first_cut (octet ∷ rest) ≡ Some (pieces.Dropped NoStart 1, rest)
no_start_first octet rest start =
    first_cut_is (octet ∷ rest) (pieces.Dropped NoStart 1) (ap (λ (f : Option FrameFault). piece_by f (octet ∷ rest)) (no_start_fault (octet ∷ rest) (omega arith) start))

bad_head_first : (rest : List ℕ) → 4 ≤ length (sd2 ∷ rest) → head_is_right (sd2 ∷ rest) ≡ false → first_cut (sd2 ∷ rest) ≡ Some (pieces.Dropped BadHead 1, rest)
bad_head_first rest there wrong =
    first_cut_is (sd2 ∷ rest) (pieces.Dropped BadHead 1) (ap (λ (f : Option FrameFault). piece_by f (sd2 ∷ rest)) (bad_head_fault (sd2 ∷ rest) refl there wrong))

-- a head that is right is there
right_is_there : (octets : List ℕ) → 1 ≤ length octets → head_is_right octets ≡ true → head_length octets ≤ length octets
right_is_there [] some right = absurd (omega arith)
right_is_there (d ∷ []) some right = grind (arith, common_steps)
right_is_there (d ∷ a ∷ []) some right = grind (arith, common_steps)
right_is_there (d ∷ a ∷ b ∷ []) some right = grind (arith, common_steps)
right_is_there (d ∷ a ∷ b ∷ c ∷ rest) some right = grind (arith, common_steps)

pub right_in_front : (octets : List ℕ) → is_start (delimiter octets) ≡ true → head_is_right octets ≡ true → frame_length octets ≤ length octets → InFront octets
right_in_front octets start right room = record {
  start = start;
  there = right_is_there octets (omega (arith, room, frame_length_some octets)) right;
  right = right;
  room = room;
}

whole_in_front : (octets : List ℕ) → IsWhole octets → InFront octets
whole_in_front octets whole = record {
  start = whole.start;
  there = right_is_there octets (omega (arith, whole.size, frame_length_some octets)) whole.head;
  right = whole.head;
  room = omega (arith, whole.size);
}

bad_end_first : (octets rest : List ℕ) → IsWhole octets → end_is_right octets ≡ false → first_cut (octets ++ rest) ≡ Some (pieces.Dropped BadEnd (length octets), rest)
bad_end_first octets rest whole wrong =
    let front = whole_in_front octets whole in
    let size = size_same octets rest front.there in
    let fault = bad_end_fault (octets ++ rest) (in_front_more octets rest front) (end_same octets rest front.there front.room ∙ wrong) in
    let piece : piece_of (octets ++ rest) ≡ Some (pieces.Dropped BadEnd (length octets)) =
    ap (λ (f : Option FrameFault). piece_by f (octets ++ rest)) fault ∙ ap (λ (n : ℕ). Some (pieces.Dropped BadEnd n)) (size ∙ sym whole.size) in
    first_cut_is (octets ++ rest) (pieces.Dropped BadEnd (length octets)) piece
    ∙ ap (λ (o : List ℕ). Some (pieces.Dropped BadEnd (length octets), o)) (drop_at octets rest (length octets) refl)

pub starts_first : (s : List ℕ) (cut : Cut) (rest : List ℕ) → StartsWith s cut rest → first_cut s ≡ Some (cut, rest)
starts_first s (pieces.Frame frame octets) rest starts = ap first_cut starts.0 ∙ frame_first octets.items rest frame starts.1
starts_first s (pieces.Dropped NoStart count) rest starts =
    ap first_cut starts.first ∙ no_start_first starts.octet rest starts.no_start ∙ ap (λ (n : ℕ). Some (pieces.Dropped NoStart n, rest)) (sym starts.counted)
starts_first s (pieces.Dropped BadHead count) rest starts =
    ap first_cut starts.first ∙ bad_head_first rest (rw starts.first at starts.there) (rw starts.first at starts.wrong) ∙ ap (λ (n : ℕ). Some (pieces.Dropped BadHead n, rest)) (sym starts.counted)
starts_first s (pieces.Dropped BadEnd count) rest starts =
    ap first_cut starts.first ∙ bad_end_first starts.octets rest starts.whole starts.wrong ∙ ap (λ (n : ℕ). Some (pieces.Dropped BadEnd n, rest)) (sym starts.counted)
starts_first s (pieces.Dropped Short count) rest starts = absurd starts
starts_first s (pieces.Dropped Long count) rest starts = absurd starts

-- the first cut is a piece in front
pub take_front : (s : List ℕ) → frame_length s ≤ length s → length (take (frame_length s) s) ≡ frame_length s
take_front s room = length-take-le (frame_length s) s room

-- the octets of the frame in front, apart from what follows them
pub record Parted (s octets : List ℕ) : Type 0 where
  pub some : 1 ≤ length octets
  pub start : delimiter octets ≡ delimiter s
  pub head : head_length octets ≡ head_length s
  pub there : head_length octets ≤ length octets
  pub right : head_is_right octets ≡ head_is_right s
  pub size : frame_length octets ≡ frame_length s
  pub whole : length octets ≡ frame_length octets

parted_by : (octets rest : List ℕ) → length octets ≡ frame_length (octets ++ rest) → Parted (octets ++ rest) octets
parted_by octets rest e =
    let some : 1 ≤ length octets = omega (arith, e, frame_length_some (octets ++ rest)) in
    let start = delimiter_same octets rest some in
    let head : head_length (octets ++ rest) ≡ head_length octets = ap (λ (d : ℕ). if eqb d sd2 then 4 else 1) start in
    let there : head_length octets ≤ length octets = omega (arith, e, head, head_within_frame (octets ++ rest)) in
    let size = size_same octets rest there in
    record {
      some = some;
      start = sym start;
      head = sym head;
      there = there;
      right = sym (right_same octets rest there);
      size = sym size;
      whole = e ∙ size;
    }

pub parted : (s : List ℕ) → frame_length s ≤ length s → Parted s (take (frame_length s) s)
parted s room =
    let whole = take-append-drop (frame_length s) s in
    let size : length (take (frame_length s) s) ≡ frame_length (take (frame_length s) s ++ drop (frame_length s) s) = take_front s room ∙ ap frame_length (sym whole) in
    subst (λ (x : List ℕ). Parted x (take (frame_length s) s)) whole (parted_by (take (frame_length s) s) (drop (frame_length s) s) size)

pub front_parted : (s : List ℕ) → InFront s → InFront (take (frame_length s) s)
front_parted s front =
    let part = parted s front.room in
    record {
      start = ap is_start part.start ∙ front.start;
      there = part.there;
      right = part.right ∙ front.right;
      room = omega (arith, part.whole);
    }

pub end_parted : (s : List ℕ) → InFront s → end_is_right (take (frame_length s) s) ≡ end_is_right s
end_parted s front =
    let part = parted s front.room in
    sym (end_same (take (frame_length s) s) (drop (frame_length s) s) part.there (omega (arith, part.whole))) ∙ ap end_is_right (take-append-drop (frame_length s) s)

pub frame_parted : (s : List ℕ) → InFront s → frame_at (take (frame_length s) s) ≡ frame_at s
frame_parted s front =
    let part = parted s front.room in
    sym (frame_same (take (frame_length s) s) (drop (frame_length s) s) part.there (omega (arith, part.whole))) ∙ ap frame_at (take-append-drop (frame_length s) s)

-- the octets of the frame in front have no fault
pub fault_parted : (s : List ℕ) → InFront s → end_is_right s ≡ true → fault_of (take (frame_length s) s) ≡ None
fault_parted s front right = whole_fault (take (frame_length s) s) (front_parted s front) (end_parted s front ∙ right) (parted s front.room).whole
