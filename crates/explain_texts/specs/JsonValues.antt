-- detail
-- The values of JSON: numbers, strings, and arrays (RFC 8259; own).
use Rattle.std.specs.Prelude.{codes, ℕ, ◌==◌, ◌&&◌, not, nat_le, if◌then◌else◌, Bool, true, false, List, [], ◌∷◌, ◌++◌, Option, Some, None}
use Rattle.std.specs.List.{flat_map}
use Rattle.std.specs.Fmt.{decimal}
use Rattle.explain_octets.specs.Words.{hex_pair}

-- ---- numbers and truth values

abbrev pub number_json : Option ℕ → List ℕ
number_json None = codes "null"
number_json (Some number) = decimal number

abbrev pub truth_json : Bool → List ℕ
truth_json true = codes "true"
truth_json false = codes "false"

-- ---- strings

-- printable ASCII, except the quotation mark and the backslash
abbrev pub is_plain : ℕ → Bool
is_plain octet = nat_le 32 octet && nat_le octet 126 && not (octet == 34) && not (octet == 92)

-- an octet within a string: any other octet is `\u00` and two hex digits
abbrev pub octet_json : ℕ → List ℕ
octet_json octet = if is_plain octet then octet ∷ [] else codes "\\u00" ++ hex_pair octet

-- a text within the quotation marks of a string
abbrev pub inside_json : List ℕ → List ℕ
inside_json text = flat_map octet_json text

unfoldable pub string_json : List ℕ → List ℕ
string_json text = codes "\"" ++ inside_json text ++ codes "\""

-- ---- arrays

-- values, the first after a separator and each other one after a comma
abbrev pub each_behind : List ℕ → List (List ℕ) → List ℕ
each_behind separator [] = []
each_behind separator (value ∷ values) = separator ++ value ++ each_behind (codes ",") values

unfoldable pub array_json : List (List ℕ) → List ℕ
array_json values = codes "[" ++ each_behind [] values ++ codes "]"
