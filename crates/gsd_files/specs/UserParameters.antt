-- detail
-- Octets of user parameters and their defaults (GSD specification, revision 3; own in detail).
use Rattle.std.specs.Prelude.{ℕ, ◌+◌, ◌-◌, ◌*◌, ◌/◌, ◌%◌, ◌^◌, ◌==◌, ◌&&◌, nat_le, nat_lt, if◌then◌else◌, List, [], ◌∷◌, ◌++◌, length, take, drop, replicate, get_or, Option, Some, None, Result, Ok, Err}
use Rattle.gsd_files.specs.declared.cause.Cause.{Cause}
use Rattle.gsd_files.specs.declared.cause.Cause.TheVariants.{ManyParameters}
use Rattle.gsd_files.specs.declared.user.Form.{Form}
use Rattle.gsd_files.specs.declared.user.Form.TheVariants as forms
use Rattle.gsd_files.specs.declared.user.UserDefault.{UserDefault}
use Rattle.gsd_files.specs.declared.values.Span.{Span}

-- ---- octets at a place

-- zeros behind them, up to this number of octets
abbrev pub padded : ℕ → List ℕ → List ℕ
padded count user = user ++ replicate (count - length user) 0

-- with these octets from this place, counted from 0; the other octets stay, and those before them are 0 if there are none
abbrev pub overlaid : ℕ → List ℕ → List ℕ → List ℕ
overlaid place octets user = padded place (take place user) ++ (octets ++ drop (place + length octets) user)

-- there are at most 237 octets
abbrev pub overlaid_within : ℕ → List ℕ → List ℕ → Result (List ℕ) Cause
overlaid_within place octets user =
    if nat_lt 237 (place + length octets) then Err ManyParameters else Ok (overlaid place octets user)

-- ---- defaults

-- a bit of a number
abbrev pub bit_of : ℕ → ℕ → ℕ
bit_of bit number = number / 2 ^ bit % 2

-- a bit of an octet: that of the value if it is one of these bits, the first of which is the lowest one of the value
abbrev pub chosen_bit : Span → ℕ → ℕ → ℕ → ℕ
chosen_bit bits value old bit =
    if nat_le bits.first bit && nat_le bit bits.last then bit_of (bit - bits.first) value else bit_of bit old

-- an octet with a value in these bits, 0 to 7
abbrev pub with_bits : Span → ℕ → ℕ → ℕ
with_bits bits value old =
    chosen_bit bits value old 0 + chosen_bit bits value old 1 * 2 + chosen_bit bits value old 2 * 4
    + chosen_bit bits value old 3 * 8 + chosen_bit bits value old 4 * 16 + chosen_bit bits value old 5 * 32
    + chosen_bit bits value old 6 * 64 + chosen_bit bits value old 7 * 128

-- the octets of a value, high octet first; `old` is the octet that stands at its place
abbrev pub value_octets : Form → ℕ → ℕ → List ℕ
value_octets forms.One value old = value % 256 ∷ []
value_octets forms.Two value old = value / 256 % 256 ∷ value % 256 ∷ []
value_octets forms.Four value old = value / 16777216 % 256 ∷ value / 65536 % 256 ∷ value / 256 % 256 ∷ value % 256 ∷ []
value_octets (forms.Bits bits) value old = with_bits bits value old ∷ []

-- the first default with this reference
abbrev pub default_with : ℕ → List UserDefault → Option UserDefault
default_with reference [] = None
default_with reference (first ∷ others) = if first.reference == reference then Some first else default_with reference others

-- with a default at this place; nothing changes if there is none
abbrev pub defaulted : ℕ → Option UserDefault → List ℕ → Result (List ℕ) Cause
defaulted place None user = Ok user
defaulted place (Some default) user = overlaid_within place (value_octets default.form default.value (get_or user place 0)) user
