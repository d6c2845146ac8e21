-- Octets with more after a frame, and octets that can't be judged yet.
use Rattle.std.proofs.Common.{◌≡◌, ◌≢◌, ℕ, ◌<◌, List, [], ◌++◌, length, take, drop, Option, Some, None, refl, ap, subst, arith}
use Rattle.std.specs.Prelude.{◌↔◌}
use Rattle.std.proofs.lemmas.List.{length-drop}
use Rattle.std.proofs.lemmas.Option.{some_pair_parts}
use Rattle.dp_telegram.specs.declared.fault.FrameFault.{FrameFault}
use Rattle.dp_telegram.specs.declared.fault.FrameFault.TheVariants.{NoStart, BadHead, BadEnd, Short, Long}
use Rattle.dp_telegram.specs.declared.frame.Frame.{Frame}
use Rattle.dp_telegram.specs.declared.cutter.Cut.{Cut}
use Rattle.dp_telegram.specs.declared.cutter.Cut.TheVariants as pieces
use Rattle.dp_telegram.specs.FrameText.{Spells, HasFrameAndMore, fault_of, frame_at, frame_length}
use Rattle.dp_telegram.specs.Stream.{StartsWithNone, piece_by, piece_of}
use Rattle.dp_telegram.proofs.Texts.{no_text_begins, Spells-frame_of}
use Rattle.dp_telegram.proofs.Faults.{Means, means}
use Rattle.dp_telegram.proofs.Fronts.{followed, starts_first, take_front}
use Rattle.dp_telegram.proofs.Streams.{frame_starts, none_starts, starts_none, no_piece}

-- Long: a text, and more
more_behind : (s : List ℕ) → Means s (Some Long) → HasFrameAndMore s
more_behind s meant =
    let starts = frame_starts s meant.0 meant.1 in
    let taken = take_front s meant.0.room in
    record {
      text = take (frame_length s) s;
      more = drop (length (take (frame_length s) s)) s;
      frame = frame_at s;
      all = starts.0;
      spelt = starts.1;
      some = λ none. let over : frame_length s < length s = meant.2 in absurd (omega (arith, over, taken, length-drop (length (take (frame_length s) s)) s, ap length none));
    }

long_by : (s : List ℕ) (fault : Option FrameFault) (frame : Frame) (text : List ℕ) (more : List ℕ) → fault_of s ≡ fault → s ≡ text ++ more → Spells text frame → more ≢ []
    → piece_by fault s ≡ Some (pieces.Frame frame (record { items = text })) → fault ≡ Some Long
long_by s None frame text more e all spelt some piece =
    let whole : Spells s (frame_at s) = (Spells-frame_of s (frame_at s)).1 (rw e refl) in
    absurd (some (no_text_begins text more frame (frame_at s) spelt (subst (λ (x : List ℕ). Spells x (frame_at s)) all whole)))
long_by s (Some Long) frame text more e all spelt some piece = refl
long_by s (Some NoStart) frame text more e all spelt some piece = absurd cc
long_by s (Some BadHead) frame text more e all spelt some piece = absurd cc
long_by s (Some BadEnd) frame text more e all spelt some piece = absurd cc
long_by s (Some Short) frame text more e all spelt some piece = absurd cc

-- the piece of a first cut
cut_piece : (piece : Option Cut) (s : List ℕ) (cut : Cut) (rest : List ℕ) → followed s piece ≡ Some (cut, rest) → piece ≡ Some cut
cut_piece None s cut rest e = absurd cc
cut_piece (Some x) s cut rest e = ap Some (some_pair_parts x cut _ rest e).0

pub long_is_more : (s : List ℕ) → (fault_of s ≡ Some Long) ↔ HasFrameAndMore s
long_is_more s = (
  λ long. more_behind s (subst (Means s) long (means s)),
  λ more.
      let first = starts_first s (pieces.Frame more.frame (record { items = more.text })) more.more (more.all, more.spelt) in
      long_by s (fault_of s) more.frame more.text more.more refl more.all more.spelt more.some (cut_piece (piece_of s) s (pieces.Frame more.frame (record { items = more.text })) more.more first),
)

short_by : (s : List ℕ) (fault : Option FrameFault) → piece_by fault s ≡ None → fault ≡ Some Short
short_by s None e = absurd cc
short_by s (Some Long) e = absurd cc
short_by s (Some NoStart) e = absurd cc
short_by s (Some BadHead) e = absurd cc
short_by s (Some BadEnd) e = absurd cc
short_by s (Some Short) e = refl

-- Short: no piece
pub short_is_none : (s : List ℕ) → (fault_of s ≡ Some Short) ↔ StartsWithNone s
short_is_none s = (
  λ short. none_starts s (ap (λ (f : Option FrameFault). followed s (piece_by f s)) short),
  λ none. short_by s (fault_of s) (no_piece (piece_of s) s (starts_none s none)),
)
