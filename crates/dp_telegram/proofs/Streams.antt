-- The cut of a stream, as a relation and as computed.
use Rattle.std.proofs.Common.{◌≡◌, ◌≢◌, ℕ, zero, suc, ◌+◌, ◌≤◌, ◌<◌, inl, inr, true, false, eqb, List, [], ◌∷◌, ◌++◌, length, take, drop, Option, Some, None, Ok, refl, sym, ap, subst, ◌∙◌, arith}
use Rattle.std.specs.Prelude.{IfSome, sum_by}
use Rattle.std.proofs.lemmas.Bool.{eqb-true, both_ways, cases_Bool}
use Rattle.std.proofs.lemmas.List.{append_assoc, drop-drop, take-append-drop, length-take, length-drop, length-append, nil_from_length}
use Rattle.dp_telegram.specs.declared.fault.FrameFault.{FrameFault}
use Rattle.dp_telegram.specs.declared.fault.FrameFault.TheVariants.{NoStart, BadHead, BadEnd, Short, Long}
use Rattle.dp_telegram.specs.declared.frame.Frame.{Frame}
use Rattle.dp_telegram.specs.declared.cutter.Cut.{Cut}
use Rattle.dp_telegram.specs.declared.cutter.Cut.TheVariants as pieces
use Rattle.dp_telegram.specs.FrameText.{sd2, fault_of, frame_at, reading_of, frame_length, head_length, head_is_right, end_is_right, is_start, delimiter, unless_faulty}
use Rattle.dp_telegram.specs.Stream.{StartsNoFrame, HasBadHead, HasBadEnd, StartsWith, StartsWithNone, CutsInto, cut_length, frame_in_front, piece_by, piece_of, first_cut, CutStream, with_cut, cut_on, cut_up_to, cuts_of}
use Rattle.dp_telegram.proofs.Texts.{reading-Spells}
use Rattle.std.proofs.lemmas.List.Sums.{sum_by-cons}
use Rattle.std.proofs.lemmas.Option.{some_pair_parts}
use Rattle.dp_telegram.proofs.Faults.{frame_length_some, head_length_some, right_same, InFront, Means, means, whole_fault}
use Rattle.dp_telegram.proofs.Fronts.{followed, starts_first, take_front, parted, front_parted, end_parted, frame_parted}

-- each first cut is a piece in front, and there is none only if no piece is in front
pub frame_starts : (s : List ℕ) → InFront s → end_is_right s ≡ true → StartsWith s (frame_in_front s) (drop (length (take (frame_length s) s)) s)
frame_starts s front right =
    let octets : List ℕ = take (frame_length s) s in
    let part = parted s front.room in
    let whole = whole_fault (take (frame_length s) s) (front_parted s front) (end_parted s front ∙ right) part.whole in
    let read : reading_of (take (frame_length s) s) ≡ Ok (frame_at s) =
    ap (λ (f : Option FrameFault). unless_faulty f (frame_at (take (frame_length s) s))) whole ∙ ap (λ (f : Frame). unless_faulty None f) (frame_parted s front) in (
      sym (take-append-drop (frame_length s) s) ∙ ap (λ (n : ℕ). take (frame_length s) s ++ drop n s) (sym (take_front s front.room)),
      reading-Spells (take (frame_length s) s) (frame_at s) read,
    )

no_start_starts : (s : List ℕ) → 1 ≤ length s → is_start (delimiter s) ≡ false → StartsNoFrame s 1 (drop 1 s)
no_start_starts [] some start = absurd (omega arith)
no_start_starts (octet ∷ rest) some start = record { octet = octet; first = refl; no_start = start; counted = refl }

right_unless_sd2 : (s : List ℕ) → eqb (delimiter s) sd2 ≡ false → head_is_right s ≡ true
right_unless_sd2 s e = rw e refl

bad_head_starts : (s : List ℕ) → is_start (delimiter s) ≡ true → head_length s ≤ length s → head_is_right s ≡ false → HasBadHead s 1 (drop 1 s)
bad_head_starts [] start there wrong = absurd (omega (arith, there, head_length_some []))
bad_head_starts (d ∷ rest) start there wrong = elim (cases_Bool (eqb d sd2)) [
  | inl e ↦
      let four : head_length (d ∷ rest) ≡ 4 = rw e refl in
      record { first = ap (λ x. x ∷ rest) (eqb-true d sd2 e); there = omega (arith, four, there); wrong = wrong; counted = refl }
  | inr e ↦ absurd (both_ways (head_is_right (d ∷ rest)) wrong (right_unless_sd2 (d ∷ rest) e))
]

bad_end_starts : (s : List ℕ) → InFront s → end_is_right s ≡ false → HasBadEnd s (frame_length s) (drop (frame_length s) s)
bad_end_starts s front wrong =
    let part = parted s front.room in
    record {
      octets = take (frame_length s) s;
      first = sym (take-append-drop (frame_length s) s);
      whole = record { start = ap is_start part.start ∙ front.start; head = part.right ∙ front.right; size = part.whole };
      wrong = end_parted s front ∙ wrong;
      counted = sym (take_front s front.room);
    }

starts_by : (s : List ℕ) (fault : Option FrameFault) → Means s fault → IfSome (piece_by fault s) (λ cut. StartsWith s cut (drop (cut_length cut) s))
starts_by s None meant = frame_starts s meant.0 meant.1
starts_by s (Some Long) meant = frame_starts s meant.0 meant.1
starts_by s (Some NoStart) meant = no_start_starts s meant.0 meant.1
starts_by s (Some BadHead) meant = bad_head_starts s meant.0 meant.1 meant.2
starts_by s (Some BadEnd) meant = bad_end_starts s meant.0 meant.1
starts_by s (Some Short) meant = tt

starts_front : (s : List ℕ) → IfSome (piece_of s) (λ cut. StartsWith s cut (drop (cut_length cut) s))
starts_front s = starts_by s (fault_of s) (means s)

first_by : (s : List ℕ) (piece : Option Cut) (cut : Cut) (rest : List ℕ) → IfSome piece (λ x. StartsWith s x (drop (cut_length x) s))
    → followed s piece ≡ Some (cut, rest) → StartsWith s cut rest
first_by s None cut rest starts e = absurd cc
first_by s (Some x) cut rest starts e =
    let same = some_pair_parts x cut (drop (cut_length x) s) rest e in
    subst (λ (c : Cut). StartsWith s c rest) same.0 (subst (λ (r : List ℕ). StartsWith s x r) same.1 starts)

pub first_starts : (s : List ℕ) (cut : Cut) (rest : List ℕ) → first_cut s ≡ Some (cut, rest) → StartsWith s cut rest
first_starts s cut rest e = first_by s (piece_of s) cut rest (starts_front s) e

pub one_piece : (s : List ℕ) (cut other : Cut) (rest behind : List ℕ) → StartsWith s cut rest → StartsWith s other behind → (cut ≡ other) × (rest ≡ behind)
one_piece s cut other rest behind one two =
    some_pair_parts cut other rest behind (sym (starts_first s cut rest one) ∙ starts_first s other behind two)

pub none_starts : (s : List ℕ) → first_cut s ≡ None → StartsWithNone s
none_starts s none cut rest starts = let some = starts_first s cut rest starts in absurd cc

none_by : (s : List ℕ) (first : Option (Cut × List ℕ)) → first_cut s ≡ first → StartsWithNone s → first ≡ None
none_by s None e none = refl
none_by s (Some x) e none = absurd (none x.0 x.1 (first_starts s x.0 x.1 e))

pub starts_none : (s : List ℕ) → StartsWithNone s → first_cut s ≡ None
starts_none s none = none_by s (first_cut s) refl none

-- 255 octets begin with a piece
short_by : (s : List ℕ) (fault : Option FrameFault) → Means s fault → piece_by fault s ≡ None → length s < 255
short_by s None meant none = absurd cc
short_by s (Some Long) meant none = absurd cc
short_by s (Some NoStart) meant none = absurd cc
short_by s (Some BadHead) meant none = absurd cc
short_by s (Some BadEnd) meant none = absurd cc
short_by s (Some Short) meant none = meant.1

pub no_piece : (piece : Option Cut) (s : List ℕ) → followed s piece ≡ None → piece ≡ None
no_piece None s e = refl
no_piece (Some x) s e = absurd cc

pub none_is_short : (s : List ℕ) → first_cut s ≡ None → length s < 255
none_is_short s none = short_by s (fault_of s) (means s) (no_piece (piece_of s) s none)

-- a piece has octets, and no more than there are
counted_by : (s : List ℕ) (fault : Option FrameFault) → Means s fault → IfSome (piece_by fault s) (λ cut. (1 ≤ cut_length cut) × (cut_length cut ≤ length s))
counted_by s None meant = simp length-take (omega (arith, meant.0.room, frame_length_some s), omega (arith, meant.0.room))
counted_by s (Some Long) meant = simp length-take (omega (arith, meant.0.room, frame_length_some s), omega (arith, meant.0.room))
counted_by s (Some NoStart) meant = (omega arith, meant.0)
counted_by s (Some BadHead) meant = (omega arith, omega (arith, meant.1, head_length_some s))
counted_by s (Some BadEnd) meant = (frame_length_some s, meant.0.room)
counted_by s (Some Short) meant = tt

counted_at : (P : Cut → Type 0) (piece : Option Cut) (cut : Cut) → IfSome piece P → piece ≡ Some cut → P cut
counted_at P None cut holds e = absurd cc
counted_at P (Some x) cut holds e = let same : x ≡ cut = cc in subst P same holds

pub piece_counted : (s : List ℕ) (cut : Cut) → piece_of s ≡ Some cut → (1 ≤ cut_length cut) × (cut_length cut ≤ length s)
piece_counted s cut e = counted_at (λ x. (1 ≤ cut_length x) × (cut_length x ≤ length s)) (piece_of s) cut (counted_by s (fault_of s) (means s)) e

shorter_by : (s : List ℕ) (piece : Option Cut) (cut : Cut) (rest : List ℕ) → ((x : Cut) → piece ≡ Some x → (1 ≤ cut_length x) × (cut_length x ≤ length s))
    → followed s piece ≡ Some (cut, rest) → length rest < length s
shorter_by s None cut rest counted e = absurd cc
shorter_by s (Some x) cut rest counted e =
    let same = some_pair_parts x cut (drop (cut_length x) s) rest e in
    omega (arith, (counted x refl).0, (counted x refl).1, ap length same.1, length-drop (cut_length x) s)

pub rest_is_shorter : (s : List ℕ) (cut : Cut) (rest : List ℕ) → first_cut s ≡ Some (cut, rest) → length rest < length s
rest_is_shorter s cut rest e = shorter_by s (piece_of s) cut rest (piece_counted s) e

-- more octets change no piece
head_more : (rest more : List ℕ) → 4 ≤ length (sd2 ∷ rest) → head_is_right (sd2 ∷ rest ++ more) ≡ head_is_right (sd2 ∷ rest)
head_more rest more there = right_same (sd2 ∷ rest) more there

bad_head_more : (s : List ℕ) (count : ℕ) (rest more : List ℕ) → HasBadHead s count rest → HasBadHead (s ++ more) count (rest ++ more)
bad_head_more s count rest more bad =
    let long : 4 ≤ length (sd2 ∷ rest) = rw bad.first at bad.there in
    let wrong : head_is_right (sd2 ∷ rest) ≡ false = rw bad.first at bad.wrong in
    record {
      first = ap (λ x. x ++ more) bad.first;
      there = omega (arith, length-append s more, bad.there);
      wrong = ap (λ x. head_is_right (x ++ more)) bad.first ∙ head_more rest more long ∙ wrong;
      counted = bad.counted;
    }

pub starts_more : (s : List ℕ) (cut : Cut) (rest more : List ℕ) → StartsWith s cut rest → StartsWith (s ++ more) cut (rest ++ more)
starts_more s (pieces.Frame frame octets) rest more starts = (ap (λ x. x ++ more) starts.0 ∙ append_assoc octets.items rest more, starts.1)
starts_more s (pieces.Dropped NoStart count) rest more starts =
    record { octet = starts.octet; first = ap (λ x. x ++ more) starts.first; no_start = starts.no_start; counted = starts.counted }
starts_more s (pieces.Dropped BadHead count) rest more starts = bad_head_more s count rest more starts
starts_more s (pieces.Dropped BadEnd count) rest more starts = record {
  octets = starts.octets;
  first = ap (λ x. x ++ more) starts.first ∙ append_assoc starts.octets rest more;
  whole = starts.whole;
  wrong = starts.wrong;
  counted = starts.counted;
}
starts_more s (pieces.Dropped Short count) rest more starts = absurd starts
starts_more s (pieces.Dropped Long count) rest more starts = absurd starts

pub first_more : (s : List ℕ) (cut : Cut) (rest more : List ℕ) → first_cut s ≡ Some (cut, rest) → first_cut (s ++ more) ≡ Some (cut, rest ++ more)
first_more s cut rest more e = starts_first (s ++ more) cut (rest ++ more) (starts_more s cut rest more (first_starts s cut rest e))

-- one cut of a stream
pub one_cut : (s : List ℕ) (a b : List Cut) (r t : List ℕ) → CutsInto s a r → CutsInto s b t → (a ≡ b) × (r ≡ t)
one_cut s [] [] r t one two = (refl, sym one.0 ∙ two.0)
one_cut s [] (cut ∷ b) r t one two = absurd (one.1 cut two.0 two.1)
one_cut s (cut ∷ a) [] r t one two = absurd (two.1 cut one.0 one.1)
one_cut s (cut ∷ a) (other ∷ b) r t one two =
    let same = one_piece s cut other one.0 two.0 one.1 two.1 in
    let again = one_cut two.0 a b r t (subst (λ (x : List ℕ). CutsInto x a r) same.1 one.2) two.2 in
    (cc, again.1)

-- the computed cut is the cut of the relation
up_to_by : (s : List ℕ) (most : ℕ) (first : Option (Cut × List ℕ)) → first_cut s ≡ first → ((rest : List ℕ) → length rest < length s → CutsInto rest (cut_up_to most rest).cuts (cut_up_to most rest).rest)
    → CutsInto s (cut_on first (cut_up_to most) s).cuts (cut_on first (cut_up_to most) s).rest
up_to_by s most None e later = (refl, none_starts s e)
up_to_by s most (Some x) e later = (x.1, first_starts s x.0 x.1 e, later x.1 (rest_is_shorter s x.0 x.1 e))

up_to : (most : ℕ) (s : List ℕ) → length s ≤ most → CutsInto s (cut_up_to most s).cuts (cut_up_to most s).rest
up_to zero s few = (refl, none_starts s (ap first_cut (nil_from_length s (omega arith))))
up_to (suc most) s few = up_to_by s most (first_cut s) refl (λ rest fewer. up_to most rest (omega arith))

pub cuts_are : (s : List ℕ) → CutsInto s (cuts_of s).cuts (cuts_of s).rest
cuts_are s = up_to (length s) s (omega arith)

-- the pieces cut first, then those cut later from the rest
cuts_more : (s : List ℕ) (a b : List Cut) (r t more : List ℕ) → CutsInto s a r → CutsInto (r ++ more) b t → CutsInto (s ++ more) (a ++ b) t
cuts_more s [] b r t more one two = subst (λ (x : List ℕ). CutsInto (x ++ more) b t) (sym one.0) two
cuts_more s (cut ∷ a) b r t more one two = (one.0 ++ more, starts_more s cut one.0 more one.1, cuts_more one.0 a b r t more one.2 two)

pub cuts_in_pieces : (s more : List ℕ) → (cuts_of (s ++ more)).cuts ≡ (cuts_of s).cuts ++ (cuts_of ((cuts_of s).rest ++ more)).cuts
    × (cuts_of (s ++ more)).rest ≡ (cuts_of ((cuts_of s).rest ++ more)).rest
cuts_in_pieces s more =
    one_cut (s ++ more) _ _ _ _ (cuts_are (s ++ more)) (cuts_more s _ _ _ _ more (cuts_are s) (cuts_are ((cuts_of s).rest ++ more)))

cut_stream : (x y : CutStream) → (x.cuts ≡ y.cuts) × (x.rest ≡ y.rest) → x ≡ y
cut_stream x y e = ap (λ (c : List Cut). record { cuts = c; rest = x.rest }) e.0 ∙ ap (λ (r : List ℕ). record { cuts = y.cuts; rest = r }) e.1

-- one piece after another
pub cuts_first : (s : List ℕ) (cut : Cut) (rest : List ℕ) → first_cut s ≡ Some (cut, rest) → cuts_of s ≡ with_cut cut (cuts_of rest)
cuts_first s cut rest e =
    cut_stream (cuts_of s) (with_cut cut (cuts_of rest)) (one_cut s _ _ _ _ (cuts_are s) (rest, first_starts s cut rest e, cuts_are rest))

-- no octet is lost
length_by : (s : List ℕ) (cut : Cut) (rest : List ℕ) → StartsWith s cut rest → length s ≡ cut_length cut + length rest
length_by s (pieces.Frame frame octets) rest starts = ap length starts.0 ∙ length-append octets.items rest
length_by s (pieces.Dropped NoStart count) rest starts = omega (arith, ap length starts.first, starts.counted)
length_by s (pieces.Dropped BadHead count) rest starts = omega (arith, ap length starts.first, starts.counted)
length_by s (pieces.Dropped BadEnd count) rest starts = omega (arith, ap length starts.first, starts.counted, length-append starts.octets rest)
length_by s (pieces.Dropped Short count) rest starts = absurd starts
length_by s (pieces.Dropped Long count) rest starts = absurd starts

pub all_octets : (s : List ℕ) (cuts : List Cut) (rest : List ℕ) → CutsInto s cuts rest → sum_by cut_length cuts + length rest ≡ length s
all_octets s [] rest into = omega (arith, ap length into.0)
all_octets s (cut ∷ cuts) rest into = omega (arith, sum_by-cons cut_length cut cuts, length_by s cut into.0 into.1, all_octets into.0 cuts rest into.2)

-- what is left is what stands after the pieces
behind_by : (s : List ℕ) (piece : Option Cut) (cut : Cut) (rest : List ℕ) → followed s piece ≡ Some (cut, rest) → rest ≡ drop (cut_length cut) s
behind_by s None cut rest e = absurd cc
behind_by s (Some x) cut rest e =
    let same = some_pair_parts x cut (drop (cut_length x) s) rest e in
    sym same.1 ∙ ap (λ (c : Cut). drop (cut_length c) s) same.0

pub rest_behind : (s : List ℕ) (cuts : List Cut) (rest : List ℕ) → CutsInto s cuts rest → rest ≡ drop (sum_by cut_length cuts) s
rest_behind s [] rest into = sym into.0
rest_behind s (cut ∷ cuts) rest into =
    rest_behind into.0 cuts rest into.2
    ∙ ap (λ (o : List ℕ). drop (sum_by cut_length cuts) o) (behind_by s (piece_of s) cut into.0 (starts_first s cut into.0 into.1))
    ∙ drop-drop (sum_by cut_length cuts) (cut_length cut) s
    ∙ ap (λ (n : ℕ). drop n s) (sym (sum_by-cons cut_length cut cuts))

pub full_starts : (s : List ℕ) → 255 ≤ length s → first_cut s ≢ None
full_starts s full none = absurd (omega (arith, none_is_short s none))
