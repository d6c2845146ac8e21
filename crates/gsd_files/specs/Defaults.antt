-- detail
-- The defaults of user parameters, which stand in the blocks `ExtUserPrmData` (GSD specification, revision 3; own in detail).
use Rattle.std.specs.Prelude.{codes, ℕ, ◌&&◌, ◌||◌, false, nat_le, if◌then◌else◌, List, [], ◌∷◌, ◌++◌, Option, Some, None}
use Rattle.gsd_files.specs.Rows.{trimmed, body_of, key_of, argument_of, rest_of, value_of}
use Rattle.gsd_files.specs.Values.{number_of, signed_of, span_of}
use Rattle.gsd_files.specs.Keys.{same_key}
use Rattle.gsd_files.specs.declared.user.Form.{Form}
use Rattle.gsd_files.specs.declared.user.Form.TheVariants as forms
use Rattle.gsd_files.specs.declared.user.UserDefault.{UserDefault}
use Rattle.gsd_files.specs.declared.values.Span.{Span}

-- ---- the row of the form

-- bits of one octet
abbrev pub bits_by : Option Span → Option Form
bits_by None = None
bits_by (Some bits) = if nat_le bits.first bits.last && nat_le bits.last 7 then Some (forms.Bits bits) else None

-- `Unsigned8` and its like, `Bit(0)` or `BitArea(0-3)`
abbrev pub form_named : List ℕ → List ℕ → Option Form
form_named key argument =
    if same_key key (codes "unsigned8") || same_key key (codes "signed8") then Some forms.One
    else if same_key key (codes "unsigned16") || same_key key (codes "signed16") then Some forms.Two
    else if same_key key (codes "unsigned32") || same_key key (codes "signed32") then Some forms.Four
    else if same_key key (codes "bit") || same_key key (codes "bitarea") then bits_by (span_of argument)
    else None

abbrev pub default_by : ℕ → Option Form → Option ℕ → Option UserDefault
default_by reference None value = None
default_by reference (Some form) None = None
default_by reference (Some form) (Some value) = Some (record { reference = reference; form = form; value = value })

-- the default of a row as `Unsigned8 10 0-100`
abbrev pub default_of : ℕ → List ℕ → Option UserDefault
default_of reference body = default_by reference (form_named (key_of body) (argument_of body)) (signed_of (key_of (rest_of body)))

-- ---- the blocks

abbrev pub reference_by : Option (List ℕ) → Option ℕ
reference_by None = None
reference_by (Some value) = number_of (key_of value)

-- the reference of a row `ExtUserPrmData = 1 "NAME"`
abbrev pub reference_of : List ℕ → Option ℕ
reference_of body = if same_key (key_of body) (codes "extuserprmdata") then reference_by (value_of body) else None

-- the default of a row in a block with this reference
abbrev pub default_in : Option ℕ → List ℕ → Option UserDefault
default_in None body = None
default_in (Some reference) body = default_of reference body

abbrev pub or_open : Option ℕ → Option ℕ → Option ℕ
or_open block None = block
or_open block (Some reference) = Some reference

-- the reference of the block behind a row; none behind its default
abbrev pub open_behind : Option ℕ → List ℕ → Option UserDefault → Option ℕ
open_behind block body None = or_open block (reference_of body)
open_behind block body (Some default) = None

abbrev pub with_default : List UserDefault → Option UserDefault → List UserDefault
with_default defaults None = defaults
with_default defaults (Some default) = defaults ++ default ∷ []

-- the row that a line has, if it is one of its own
abbrev pub row_in : List ℕ → List ℕ
row_in line = body_of (trimmed false line)

-- the defaults of these lines behind those that were found; `block` is the reference of the block that is open
abbrev pub defaults_from : List UserDefault → Option ℕ → List (List ℕ) → List UserDefault
defaults_from defaults block [] = defaults
defaults_from defaults block (line ∷ lines) =
    defaults_from (with_default defaults (default_in block (row_in line))) (open_behind block (row_in line) (default_in block (row_in line))) lines

-- the defaults of a file
abbrev pub defaults_of : List (List ℕ) → List UserDefault
defaults_of lines = defaults_from [] None lines
