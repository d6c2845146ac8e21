-- detail
-- The values of the JSON of a rack besides those of an entry (own).
use Rattle.std.specs.Prelude.{codes, ℕ, List, ◌++◌, map, Option, Some, None}
use Rattle.std.specs.List.{flat_map}
use Rattle.std.specs.Fmt.{decimal}
use Rattle.explain_octets.specs.Words.{hex_pair}
use Rattle.explain_texts.specs.JsonValues.{array_json}

-- octets, as a string of two hex digits each
unfoldable pub octets_json : List ℕ → List ℕ
octets_json octets = codes "\"" ++ flat_map hex_pair octets ++ codes "\""

unfoldable pub numbers_json : List ℕ → List ℕ
numbers_json numbers = array_json (map decimal numbers)

-- the masters of a list; null if there is no list
abbrev pub list_json : Option (List ℕ) → List ℕ
list_json None = codes "null"
list_json (Some numbers) = numbers_json numbers
