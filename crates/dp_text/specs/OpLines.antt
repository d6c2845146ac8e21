-- detail
-- The lines of an operator (own).
use Rattle.std.specs.Prelude.{◌≡◌, codes, ℕ, ◌==◌, ◌<◌, if◌then◌else◌, List, [], ◌∷◌, ◌++◌, map, Option, Some, None, option_map}
use Rattle.std.specs.Char.{to_ascii_lowercase}
use Rattle.std.specs.Fmt.{decimal}
use Rattle.dp_line.specs.declared.event.Op.{Op}
use Rattle.dp_line.specs.declared.event.Op.TheVariants.{Input, Diag, Busy, Tick, Halt}
use Rattle.dp_text.specs.declared.ops.HexCase.TheVariants.{Either}
use Rattle.dp_text.specs.declared.op_line.OpLine.{OpLine}
use Rattle.dp_text.specs.declared.op_line.OpLine.TheVariants.{Event, Owned, Show, Step, Nothing}
use Rattle.dp_text.specs.declared.op_line.OpLineKind.{OpLineKind}
use Rattle.dp_text.specs.declared.op_line.OpLineKind.TheVariants as asked
use Rattle.dp_text.specs.Numbers.{octet_number}
use Rattle.dp_text.specs.Words.{words_of, same_text}
use Rattle.dp_text.specs.Texts.{octets_text, flags_text, op_text}
use Rattle.dp_text.specs.Events.{IsOpWithinLimits, op_of_words}

-- ---- how a line is written

-- a word of octets: `-` for none, else pairs of hex digits, each in either case
abbrev pub IsOctetsWord : List ℕ → List ℕ → Type 0
IsOctetsWord word octets = map to_ascii_lowercase word ≡ octets_text octets

-- what an operator does is written as in an audit text, except for the case of the hex digits: `in A HEX`, `diag A FLAGS HEX`,
-- `busy A POINT on` or `off`, `tick N`, `halt`
abbrev pub IsOpText : List ℕ → Op → Type 0
IsOpText text (Input address octets) =
    (word : List ℕ) × (text ≡ codes "in " ++ decimal address ++ codes " " ++ word) × IsOctetsWord word octets.items
IsOpText text (Diag address ext stat overflow octets) =
    (word : List ℕ) × (text ≡ codes "diag " ++ decimal address ++ codes " " ++ flags_text ext stat overflow ++ codes " " ++ word) × IsOctetsWord word octets.items
IsOpText text (Busy address point on) = text ≡ op_text (Busy address point on)
IsOpText text (Tick units) = text ≡ op_text (Tick units)
IsOpText text Halt = text ≡ op_text Halt

-- an empty line, or one that begins with `#`
abbrev pub IsRemark : List ℕ → Type 0
IsRemark [] = Unit {0}
IsRemark (first ∷ others) = first ≡ 35

-- the text of a line that asks for this, within the limits of events
abbrev pub IsOpLine : List ℕ → OpLine → Type 0
IsOpLine text (Event op) = IsOpWithinLimits op × IsOpText text op
IsOpLine text (Owned master) = (master < 256) × (text ≡ codes "owned " ++ decimal master)
IsOpLine text (Show address) = (address < 256) × (text ≡ codes "show " ++ decimal address)
IsOpLine text Step = text ≡ codes "step"
IsOpLine text Nothing = IsRemark text

-- ---- how it is read

-- the number from 0 to 255 that is the only word
abbrev pub only_octet : List (List ℕ) → Option ℕ
only_octet (number ∷ []) = octet_number number
only_octet other = None

-- nothing, after `step`
abbrev pub step_of : List (List ℕ) → Option OpLine
step_of [] = Some Step
step_of other = None

-- what a line asks for, by the first word; hex digits are in either case
abbrev pub op_line_of_words : List (List ℕ) → Option OpLine
op_line_of_words [] = None
op_line_of_words (word ∷ words) =
    if same_text word (codes "owned") then option_map Owned (only_octet words)
    else if same_text word (codes "show") then option_map Show (only_octet words)
    else if same_text word (codes "step") then step_of words
    else option_map Event (op_of_words Either (word ∷ words))

-- what a line asks for; None if it is not a command
abbrev pub op_line_of : List ℕ → Option OpLine
op_line_of [] = Some Nothing
op_line_of (first ∷ others) = if first == 35 then Some Nothing else op_line_of_words (words_of (first ∷ others))

-- what a line asks for, if this is what the operator does
abbrev pub line_asked : Op → OpLineKind → OpLine
line_asked op asked.Event = Event op
line_asked op (asked.Owned master) = Owned master
line_asked op (asked.Show address) = Show address
line_asked op asked.Step = Step
line_asked op asked.Nothing = Nothing
