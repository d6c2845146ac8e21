-- promise
-- The pieces of a stream of octets.
use Rattle.std.specs.Prelude.{◌≡◌, ◌≢◌, ◌⊎◌, ℕ, zero, suc, ◌≤◌, true, false, List, [], ◌∷◌, ◌++◌, length, take, drop, Option, Some, None, option_map}
use Rattle.dp_telegram.specs.declared.fault.FrameFault.{FrameFault}
use Rattle.dp_telegram.specs.declared.fault.FrameFault.TheVariants.{NoStart, BadHead, BadEnd, Short, Long}
use Rattle.dp_telegram.specs.declared.cutter.Cut.{Cut}
use Rattle.dp_telegram.specs.declared.cutter.Cut.TheVariants as pieces
use Rattle.dp_telegram.specs.declared.cutter.Piece.{Piece}
use Rattle.dp_telegram.specs.declared.cutter.Piece.TheVariants as lent
use Rattle.dp_telegram.specs.FrameText.{sd1, sd2, sd3, ed, check_sequence, Spells, delimiter, is_start, head_is_right, frame_length, end_is_right, fault_of, frame_at}

-- a start delimiter, a right head, and as many octets as the head says (IEC 61158-4-3, frame formats)
pub record IsWhole (octets : List ℕ) : Type 0 where
  pub start : is_start (delimiter octets) ≡ true
  pub head : head_is_right octets ≡ true
  pub size : length octets ≡ frame_length octets

-- the stream is one octet that starts no frame, and the rest (own)
pub record StartsNoFrame (stream : List ℕ) (count : ℕ) (rest : List ℕ) : Type 0 where
  pub octet : ℕ
  pub first : stream ≡ octet ∷ rest
  pub no_start : is_start octet ≡ false
  pub counted : count ≡ 1

-- the stream begins with a wrong SD2 head, whose first octet is dropped; it is judged when its four octets are there (own)
pub record HasBadHead (stream : List ℕ) (count : ℕ) (rest : List ℕ) : Type 0 where
  pub first : stream ≡ sd2 ∷ rest
  pub there : 4 ≤ length stream
  pub wrong : head_is_right stream ≡ false
  pub counted : count ≡ 1

-- the stream is a whole frame, by its head, with a wrong check sequence or end delimiter, and the rest (own)
pub record HasBadEnd (stream : List ℕ) (count : ℕ) (rest : List ℕ) : Type 0 where
  pub octets : List ℕ
  pub first : stream ≡ octets ++ rest
  pub whole : IsWhole octets
  pub wrong : end_is_right octets ≡ false
  pub counted : count ≡ length octets

-- what stands before DA in a telegram whose check sequence covers `size` octets: SD1 with only DA, SA and FC, SD2 with the length twice, SD3 with
-- eight octets of data unit (IEC 61158-4-3, frame formats)
abbrev pub IsHead : List ℕ → ℕ → Type 0
IsHead head size =
    ((head ≡ sd1 ∷ []) × (size ≡ 3))
    ⊎ ((head ≡ sd2 ∷ size ∷ size ∷ sd2 ∷ []) × (4 ≤ size) × (size ≤ 249))
    ⊎ ((head ≡ sd3 ∷ []) × (size ≡ 11))

-- a whole frame with a wrong check sequence or end delimiter, by its layout: a head, the octets that the check sequence covers, and a check octet and
-- an end octet, at least one of which is wrong (IEC 61158-4-3, frame formats)
pub record HasWrongEnd (octets : List ℕ) : Type 0 where
  pub head : List ℕ
  pub body : List ℕ
  pub check : ℕ
  pub last : ℕ
  pub laid_out : octets ≡ head ++ body ++ check ∷ last ∷ []
  pub fits : IsHead head (length body)
  pub wrong : (check ≢ check_sequence body) ⊎ (last ≢ ed)

-- the stream is this piece and the rest: the text of a frame with its octets, or one of the three that are dropped (own)
abbrev pub StartsWith : List ℕ → Cut → List ℕ → Type 0
StartsWith stream (pieces.Frame frame octets) rest = (stream ≡ octets.items ++ rest) × Spells octets.items frame
StartsWith stream (pieces.Dropped NoStart count) rest = StartsNoFrame stream count rest
StartsWith stream (pieces.Dropped BadHead count) rest = HasBadHead stream count rest
StartsWith stream (pieces.Dropped BadEnd count) rest = HasBadEnd stream count rest
StartsWith stream (pieces.Dropped Short count) rest = ⊥
StartsWith stream (pieces.Dropped Long count) rest = ⊥

-- the octets begin with no piece: what is left can't be judged yet
abbrev pub StartsWithNone : List ℕ → Type 0
StartsWithNone stream = (cut : Cut) (rest : List ℕ) → ¬ StartsWith stream cut rest

-- the cut of a stream: it is these pieces one after another, and the rest begins with no piece (own)
abbrev pub CutsInto : List ℕ → List Cut → List ℕ → Type 0
CutsInto stream [] rest = (stream ≡ rest) × StartsWithNone stream
CutsInto stream (cut ∷ cuts) rest = (behind : List ℕ) × StartsWith stream cut behind × CutsInto behind cuts rest

-- the number of octets of a piece
abbrev pub cut_length : Cut → ℕ
cut_length (pieces.Frame frame octets) = length octets.items
cut_length (pieces.Dropped fault count) = count

-- the frame in front, with its octets
abbrev pub frame_in_front : List ℕ → Cut
frame_in_front stream = pieces.Frame (frame_at stream) (record { items = take (frame_length stream) stream })

-- the piece in front, by the fault of the octets: they are Long if octets follow a frame, and Short if more must arrive
abbrev pub piece_by : Option FrameFault → List ℕ → Option Cut
piece_by None stream = Some (frame_in_front stream)
piece_by (Some Long) stream = Some (frame_in_front stream)
piece_by (Some NoStart) stream = Some (pieces.Dropped NoStart 1)
piece_by (Some BadHead) stream = Some (pieces.Dropped BadHead 1)
piece_by (Some BadEnd) stream = Some (pieces.Dropped BadEnd (frame_length stream))
piece_by (Some Short) stream = None

-- the piece in front
abbrev pub piece_of : List ℕ → Option Cut
piece_of stream = piece_by (fault_of stream) stream

-- the piece in front, and what follows it
abbrev pub first_cut : List ℕ → Option (Cut × List ℕ)
first_cut stream = option_map (λ cut. (cut, drop (cut_length cut) stream)) (piece_of stream)

-- what follows the piece in front; all octets if there is none
abbrev pub left_behind : Option Cut → List ℕ → List ℕ
left_behind None stream = stream
left_behind (Some cut) stream = drop (cut_length cut) stream

abbrev pub left_of : List ℕ → List ℕ
left_of stream = left_behind (piece_of stream) stream

-- the piece that a `Piece` stands for: the octets of a frame determine the frame
abbrev pub cut_lent : Piece → Cut
cut_lent (lent.Frame octets) = pieces.Frame (frame_at octets) (record { items = octets })
cut_lent (lent.Dropped fault count) = pieces.Dropped fault count

-- the pieces of a stream, and the rest
pub record CutStream : Type 0 where
  pub cuts : List Cut
  pub rest : List ℕ

-- no piece, and all octets are the rest
abbrev pub uncut : List ℕ → CutStream
uncut stream = record { cuts = []; rest = stream }

-- the pieces with one more in front
abbrev pub with_cut : Cut → CutStream → CutStream
with_cut cut stream = record { cuts = cut ∷ stream.cuts; rest = stream.rest }

-- the pieces, with the one that was handed out in front of them, if one was
abbrev pub with_handed : Option Cut → CutStream → CutStream
with_handed None stream = stream
with_handed (Some cut) stream = with_cut cut stream

abbrev pub cut_on : Option (Cut × List ℕ) → (List ℕ → CutStream) → List ℕ → CutStream
cut_on None cut_rest stream = uncut stream
cut_on (Some first) cut_rest stream = with_cut first.0 (cut_rest first.1)

-- the first pieces, at most `most` of them
abbrev pub cut_up_to : ℕ → List ℕ → CutStream
cut_up_to zero stream = uncut stream
cut_up_to (suc most) stream = cut_on (first_cut stream) (cut_up_to most) stream

-- all pieces; there are at most as many as octets
abbrev pub cuts_of : List ℕ → CutStream
cuts_of stream = cut_up_to (length stream) stream
