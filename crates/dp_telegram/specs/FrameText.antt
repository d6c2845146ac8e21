-- promise
-- The text of a frame, and the fault of octets that are not the text of a frame.
use Rattle.std.specs.Prelude.{◌≡◌, ◌≢◌, ℕ, ◌+◌, ◌-◌, ◌%◌, ◌≤◌, ◌⊎◌, Bool, not, ◌&&◌, ◌||◌, ◌==◌, nat_lt, nat_le, if◌then◌else◌, List, [], ◌∷◌, ◌++◌, length, sum, drop, slice_index, slice_range, Option, Some, None, is_none, Result, Ok, Err}
use Rattle.std.specs.List.{list_any}
use Rattle.dp_telegram.specs.declared.fault.FrameFault.{FrameFault}
use Rattle.dp_telegram.specs.declared.fault.FrameFault.TheVariants.{NoStart, BadHead, BadEnd, Short, Long}
use Rattle.dp_telegram.specs.declared.frame.Telegram.{Telegram}
use Rattle.dp_telegram.specs.declared.frame.Frame.{Frame}
use Rattle.dp_telegram.specs.declared.frame.Frame.TheVariants as frames

-- the numbers of the faults (own)
abbrev pub fault_code : FrameFault → ℕ
fault_code NoStart = 1
fault_code BadHead = 2
fault_code BadEnd = 3
fault_code Short = 4
fault_code Long = 5

-- start and end delimiters (IEC 61158-4-3, delimiters)
abbrev pub sd1 : ℕ
sd1 = 0x10

abbrev pub sd2 : ℕ
sd2 = 0x68

abbrev pub sd3 : ℕ
sd3 = 0xA2

abbrev pub sd4 : ℕ
sd4 = 0xDC

abbrev pub sc : ℕ
sc = 0xE5

abbrev pub ed : ℕ
ed = 0x16

-- the octets that the check sequence covers: DA, SA, FC and the data unit (IEC 61158-4-3, frame check sequence)
abbrev pub body_of : Telegram → List ℕ
body_of t = t.da ∷ t.sa ∷ t.fc ∷ t.du.items

-- their sum modulo 256 (IEC 61158-4-3, frame check sequence)
abbrev pub check_sequence : List ℕ → ℕ
check_sequence body = sum body % 256

-- octets, their check sequence and the end delimiter (IEC 61158-4-3, frame formats)
abbrev pub checked : List ℕ → List ℕ
checked body = body ++ check_sequence body ∷ ed ∷ []

-- SD1: 10 DA SA FC FCS 16 (IEC 61158-4-3, fixed length with no data field)
abbrev pub sd1_text : Telegram → List ℕ
sd1_text t = sd1 ∷ checked (body_of t)

-- SD2: 68 LE LEr 68 DA SA FC DU FCS 16; LE = LEr counts DA to DU (IEC 61158-4-3, variable data field length)
abbrev pub sd2_text : Telegram → List ℕ
sd2_text t = sd2 ∷ length (body_of t) ∷ length (body_of t) ∷ sd2 ∷ checked (body_of t)

-- SD3: A2 DA SA FC DU FCS 16 (IEC 61158-4-3, fixed length with data field)
abbrev pub sd3_text : Telegram → List ℕ
sd3_text t = sd3 ∷ checked (body_of t)

-- SD4: DC DA SA (IEC 61158-4-3, token)
abbrev pub sd4_text : ℕ → ℕ → List ℕ
sd4_text da sa = sd4 ∷ da ∷ sa ∷ []

-- SC: E5 (IEC 61158-4-3, short acknowledgement)
abbrev pub sc_text : List ℕ
sc_text = sc ∷ []

-- the octets are a text of the frame, by one of the five layouts
abbrev pub Spells : List ℕ → Frame → Type 0
Spells octets (frames.Token da sa) = octets ≡ sd4_text da sa
Spells octets frames.Ack = octets ≡ sc_text
Spells octets (frames.Telegram t) =
    ((octets ≡ sd1_text t) × (length t.du.items ≡ 0))
    ⊎ ((octets ≡ sd2_text t) × (1 ≤ length t.du.items) × (length t.du.items ≤ 246))
    ⊎ ((octets ≡ sd3_text t) × (length t.du.items ≡ 8))

-- the octets begin with the text of a frame, and more octets follow
pub record HasFrameAndMore (octets : List ℕ) : Type 0 where
  pub text : List ℕ
  pub more : List ℕ
  pub frame : Frame
  pub all : octets ≡ text ++ more
  pub spelt : Spells text frame
  pub some : more ≢ []

-- the text that is written: SD1 without a data unit, SD2 with one (own choice of SD2 for eight octets)
abbrev pub text_of : Frame → List ℕ
text_of (frames.Token da sa) = sd4_text da sa
text_of frames.Ack = sc_text
text_of (frames.Telegram t) = if length t.du.items == 0 then sd1_text t else sd2_text t

-- the first octet: the start delimiter, if there is one
abbrev pub delimiter : List ℕ → ℕ
delimiter octets = slice_index octets 0

-- one of the five start delimiters
abbrev pub is_start : ℕ → Bool
is_start octet = list_any (λ start. octet == start) (sd1 ∷ sd2 ∷ sd3 ∷ sd4 ∷ sc ∷ [])

-- the number of octets before DA; those of SD2 are judged before the rest has arrived (IEC 61158-4-3, length octets)
abbrev pub head_length : List ℕ → ℕ
head_length octets = if delimiter octets == sd2 then 4 else 1

-- LE is 4 to 249 and is repeated, and so is the start delimiter; only SD2 has such a head
abbrev pub head_is_right : List ℕ → Bool
head_is_right octets = not (delimiter octets == sd2)
    || nat_le 4 (slice_index octets 1) && nat_le (slice_index octets 1) 249
    && slice_index octets 1 == slice_index octets 2 && slice_index octets 3 == sd2

-- the number of octets of the whole frame, by its head
abbrev pub frame_length : List ℕ → ℕ
frame_length octets =
    if delimiter octets == sd1 then 6
    else if delimiter octets == sd2 then slice_index octets 1 + 6
    else if delimiter octets == sd3 then 14
    else if delimiter octets == sd4 then 3
    else 1

-- token and short acknowledgement have neither check sequence nor end delimiter
abbrev pub is_checked : List ℕ → Bool
is_checked octets = not (delimiter octets == sd4 || delimiter octets == sc)

-- DA to the end of the data unit, by position
abbrev pub body_at : List ℕ → List ℕ
body_at octets = slice_range octets (head_length octets) (frame_length octets - 2)

-- the check sequence and the end delimiter are right, in a frame that has them
abbrev pub end_is_right : List ℕ → Bool
end_is_right octets = not (is_checked octets)
    || slice_index octets (frame_length octets - 2) == check_sequence (body_at octets)
    && slice_index octets (frame_length octets - 1) == ed

-- the fault of the first row that applies
abbrev pub first_fault : List (Bool × FrameFault) → Option FrameFault
first_fault [] = None
first_fault (row ∷ rows) = if row.0 then Some row.1 else first_fault rows

-- the fault of octets that are no frame, in the order in which faults are reported (own order)
abbrev pub fault_of : List ℕ → Option FrameFault
fault_of octets = first_fault (
    (nat_lt (length octets) 1, Short)
    ∷ (not (is_start (delimiter octets)), NoStart)
    ∷ (nat_lt (length octets) (head_length octets), Short)
    ∷ (not (head_is_right octets), BadHead)
    ∷ (nat_lt (length octets) (frame_length octets), Short)
    ∷ (not (end_is_right octets), BadEnd)
    ∷ (nat_lt (frame_length octets) (length octets), Long)
    ∷ [])

-- the telegram with these octets as DA, SA, FC and the data unit
abbrev pub telegram_in : List ℕ → Telegram
telegram_in body = record {
  da = slice_index body 0;
  sa = slice_index body 1;
  fc = slice_index body 2;
  du = record { items = drop 3 body };
}

-- the frame with its fields at the positions that the head gives
abbrev pub frame_at : List ℕ → Frame
frame_at octets =
    if delimiter octets == sd4 then frames.Token (slice_index octets 1) (slice_index octets 2)
    else if delimiter octets == sc then frames.Ack
    else frames.Telegram (telegram_in (body_at octets))

-- the frame that the octets spell
abbrev pub frame_of : List ℕ → Option Frame
frame_of octets = if is_none (fault_of octets) then Some (frame_at octets) else None

abbrev pub unless_faulty : Option FrameFault → Frame → Result Frame FrameFault
unless_faulty None frame = Ok frame
unless_faulty (Some fault) frame = Err fault

-- the frame, or the fault
abbrev pub reading_of : List ℕ → Result Frame FrameFault
reading_of octets = unless_faulty (fault_of octets) (frame_at octets)
