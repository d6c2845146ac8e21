-- detail
-- Reading the texts of events (own).
use Rattle.std.specs.Prelude.{codes, ℕ, ◌≤◌, ◌<◌, nat_le, Bool, true, false, if◌then◌else◌, List, [], ◌∷◌, length, Option, Some, None, IfSome, option_map, option_and_then}
use Rattle.std.specs.List.{list_any}
use Rattle.std.specs.Char.{is_ascii_uppercase}
use Rattle.hex.specs.Hex.{IsBytes}
use Rattle.dp_line.specs.declared.event.Event.{Event}
use Rattle.dp_line.specs.declared.event.Event.TheVariants.{Request, Operator}
use Rattle.dp_line.specs.declared.event.Op.{Op}
use Rattle.dp_line.specs.declared.event.Op.TheVariants.{Input, Diag, Busy, Tick, Halt}
use Rattle.dp_text.specs.declared.ops.HexCase.{HexCase}
use Rattle.dp_text.specs.declared.ops.HexCase.TheVariants.{Lower, Either}
use Rattle.dp_text.specs.Numbers.{number_to, octet_number}
use Rattle.dp_text.specs.Words.{words_of, same_text}
use Rattle.dp_text.specs.HexWords.{octets_of_word}
use Rattle.dp_text.specs.Texts.{flags_text, on_or_off_text}

-- ---- words

-- the octets if there are at most `most`
abbrev pub octets_within : ℕ → List ℕ → Option (List ℕ)
octets_within most octets = if nat_le (length octets) most then Some octets else None

-- the octets of a word of hex digits in either case, at most `most` octets
abbrev pub octets_up_to : ℕ → List ℕ → Option (List ℕ)
octets_up_to most word = option_and_then (octets_within most) (octets_of_word word)

-- a word has letters of a case that is not accepted
abbrev pub has_other_case : HexCase → List ℕ → Bool
has_other_case Lower word = list_any is_ascii_uppercase word
has_other_case Either word = false

-- at most `most` octets as texts write them: `-` for none, else pairs of hex digits in this case
abbrev pub event_octets : HexCase → ℕ → List ℕ → Option (List ℕ)
event_octets case most word =
    if same_text word (codes "-") then Some []
    else if has_other_case case word then None
    else octets_up_to most word

-- the first of these values whose text is the word
abbrev pub first_with_text : {A : Type 0} → (A → List ℕ) → List A → List ℕ → Option A
first_with_text text_of [] word = None
first_with_text text_of (value ∷ values) word =
    if same_text word (text_of value) then Some value else first_with_text text_of values word

-- ext, stat and overflow of a diagnosis
abbrev pub Flags : Type 0
Flags = Bool × Bool × Bool

abbrev pub text_of_flags : Flags → List ℕ
text_of_flags flags = flags_text flags.0 flags.1 flags.2

abbrev pub all_flags : List Flags
all_flags =
    (false, false, false)
    ∷ (true, false, false) ∷ (false, true, false) ∷ (false, false, true)
    ∷ (true, true, false) ∷ (true, false, true) ∷ (false, true, true)
    ∷ (true, true, true)
    ∷ []

abbrev pub flags_of : List ℕ → Option Flags
flags_of = first_with_text text_of_flags all_flags

abbrev pub on_or_off : List ℕ → Option Bool
on_or_off = first_with_text on_or_off_text (true ∷ false ∷ [])

-- a point, or `default`
abbrev pub point_of : List ℕ → Option (Option ℕ)
point_of word = if same_text word (codes "default") then Some None else option_map Some (octet_number word)

-- ---- what an operator does

-- `A HEX`, after `in`
abbrev pub input_of : HexCase → List (List ℕ) → Option Op
input_of case (address ∷ octets ∷ []) =
    option_and_then (λ number. option_map (λ items. Input number (record { items = items })) (event_octets case 244 octets)) (octet_number address)
input_of case other = None

-- a diagnosis with these flags
abbrev pub diag_with : ℕ → Flags → List ℕ → Op
diag_with address flags items = Diag address flags.0 flags.1 flags.2 (record { items = items })

-- `A FLAGS HEX`, after `diag`
abbrev pub diag_of : HexCase → List (List ℕ) → Option Op
diag_of case (address ∷ flags ∷ octets ∷ []) =
    option_and_then (λ number. option_and_then (λ set. option_map (diag_with number set) (event_octets case 238 octets)) (flags_of flags)) (octet_number address)
diag_of case other = None

-- `A POINT on` or `A POINT off`, after `busy`
abbrev pub busy_of : List (List ℕ) → Option Op
busy_of (address ∷ point ∷ state ∷ []) =
    option_and_then (λ number. option_and_then (λ at. option_map (Busy number at) (on_or_off state)) (point_of point)) (octet_number address)
busy_of other = None

-- `N`, after `tick`
abbrev pub tick_of : List (List ℕ) → Option Op
tick_of (units ∷ []) = option_map Tick (number_to 4294967295 units)
tick_of other = None

-- nothing, after `halt`
abbrev pub halt_of : List (List ℕ) → Option Op
halt_of [] = Some Halt
halt_of other = None

-- what an operator does, by the first word
abbrev pub op_of_words : HexCase → List (List ℕ) → Option Op
op_of_words case [] = None
op_of_words case (word ∷ words) =
    if same_text word (codes "in") then input_of case words
    else if same_text word (codes "diag") then diag_of case words
    else if same_text word (codes "busy") then busy_of words
    else if same_text word (codes "tick") then tick_of words
    else if same_text word (codes "halt") then halt_of words
    else None

-- ---- events

-- `M HEX`, after `req`
abbrev pub request_of : List (List ℕ) → Option Event
request_of (master ∷ octets ∷ []) =
    option_and_then (λ number. option_map (λ items. Request number (record { items = items })) (event_octets Lower 255 octets)) (octet_number master)
request_of other = None

-- an event, by the first word; the hex digits of its octets are in lower case
abbrev pub event_of_words : List (List ℕ) → Option Event
event_of_words [] = None
event_of_words (word ∷ words) =
    if same_text word (codes "req") then request_of words else option_map Operator (op_of_words Lower (word ∷ words))

-- the event that has this text; None if no event has it
abbrev pub event_of : List ℕ → Option Event
event_of text = event_of_words (words_of text)

-- ---- the events that have texts

-- at most `most` octets
abbrev pub AreOctets : ℕ → List ℕ → Type 0
AreOctets most octets = (length octets ≤ most) × IsBytes octets

abbrev pub IsOpWithinLimits : Op → Type 0
IsOpWithinLimits (Input address octets) = (address < 256) × AreOctets 244 octets.items
IsOpWithinLimits (Diag address ext stat overflow octets) = (address < 256) × AreOctets 238 octets.items
IsOpWithinLimits (Busy address point on) = (address < 256) × IfSome point (λ number. number < 256)
IsOpWithinLimits (Tick units) = units < 4294967296
IsOpWithinLimits Halt = Unit

abbrev pub IsWithinLimits : Event → Type 0
IsWithinLimits (Request master octets) = (master < 256) × AreOctets 255 octets.items
IsWithinLimits (Operator op) = IsOpWithinLimits op
