-- detail
-- The texts that are shown for a document that describes no rack (own).
use Rattle.std.specs.Prelude.{codes, ℕ, List, [], ◌∷◌, ◌++◌, ◌/◌, ◌%◌, ◌==◌, ◌&&◌, Bool, false, not, nat_le, if◌then◌else◌}
use Rattle.std.specs.Fmt.{decimal, digit_glyph}
use Rattle.std.specs.List.{flat_map}
use Rattle.rack_file.specs.declared.fault.RackFault.{RackFault}
use Rattle.rack_file.specs.declared.fault.RackFault.TheVariants as faults
use Rattle.rack_file.specs.declared.misread.Place.{Place}
use Rattle.rack_file.specs.declared.misread.Place.TheVariants.{Rack, Line, Slave}
use Rattle.rack_file.specs.declared.misread.Cause.{Cause}
use Rattle.rack_file.specs.declared.misread.Cause.TheVariants.{NoSuchKey, Missing, NoNumber, NoText, NoTextOrArray, NoHex, ManyOctets, NoFlag, NoArray, Count, NoTable, NoDevice}
use Rattle.rack_file.specs.declared.misread.Misread.{Misread}
use Rattle.rack_file.specs.declared.misread.Misread.TheVariants as misreads
use Rattle.rack_file.specs.KeyFault.{KeyFault}

-- this key of the table in this place isn't accepted
abbrev pub bad_key : Place → List ℕ → Cause → Misread
bad_key place key cause = misreads.BadKey (record { place = place; key = key; cause = cause })

-- the fault with which the rack file is refused
abbrev pub fault_of : Misread → RackFault
fault_of misreads.OutOfMemory = faults.OutOfMemory
fault_of (misreads.BadKey bad) = faults.BadKey
fault_of misreads.TwiceLine = faults.TwiceLine
fault_of (misreads.Open position fault) = faults.Open position fault

-- ---- texts

abbrev pub place_text : Place → List ℕ
place_text Rack = []
place_text (Line line) = codes "line " ++ decimal line ++ codes ", "
place_text (Slave line slave) = codes "line " ++ decimal line ++ codes ", slave " ++ decimal slave ++ codes ", "

abbrev pub cause_text : Cause → List ℕ
cause_text NoSuchKey = codes "no such key"
cause_text Missing = codes "missing"
cause_text (NoNumber least most) = codes "expected a number from " ++ decimal least ++ codes " to " ++ decimal most
cause_text NoText = codes "expected a text in quotes"
cause_text NoTextOrArray = codes "expected a text in quotes or an array of texts"
cause_text NoHex = codes "expected pairs of hex digits without spaces, as \"2111\""
cause_text ManyOctets = codes "expected at most 244 octets"
cause_text NoFlag = codes "expected true or false"
cause_text NoArray = codes "expected an array"
cause_text (Count least most) = codes "expected " ++ decimal least ++ codes " to " ++ decimal most ++ codes " elements"
cause_text NoTable = codes "expected a table as each element"
cause_text NoDevice = codes "expected \"still\", \"counter\" or \"mirror\""

-- printable ASCII, except `"` and `\`
abbrev pub stands_for_itself : ℕ → Bool
stands_for_itself octet = nat_le 0x20 octet && nat_le octet 0x7E && not (octet == 0x22) && not (octet == 0x5C)

-- an octet as it is shown in a text line
abbrev pub shown_octet : ℕ → List ℕ
shown_octet octet =
    if stands_for_itself octet then octet ∷ [] else codes "\\x" ++ digit_glyph false (octet / 16) ∷ digit_glyph false (octet % 16) ∷ []

-- a text as it is shown in a text line
abbrev pub shown : List ℕ → List ℕ
shown text = flat_map shown_octet text

abbrev pub key_fault_text : KeyFault → List ℕ
key_fault_text bad = place_text bad.place ++ codes "key \"" ++ shown bad.key ++ codes "\": " ++ cause_text bad.cause
