-- helper
-- Words of private functions. No public contract cites this module.
use Rattle.std.specs.Prelude.{codes, ℕ, ◌-◌, ◌*◌, nat_lt, Bool, if◌then◌else◌, List, [], ◌∷◌, ◌++◌, drop, filter, length, map, take, Option, Some, None, unwrap_or}
use Rattle.std.specs.Fmt.{decimal}
use Rattle.std.specs.List.{range_with_len}
use Rattle.explain_octets.specs.Blocks.{blocks_of, block_text, is_set_in}

-- the names of the rows that are set, each after its separator, and a text after them; another text if none is set
abbrev pub names_behind : List ℕ → List ℕ → List ℕ → List (Bool × List ℕ) → List ℕ
names_behind separator none behind [] = none
names_behind separator none behind (row ∷ rows) =
    if row.0 then separator ++ row.1 ++ names_behind (codes ", ") behind behind rows
    else names_behind separator none behind rows

-- texts, the first after a separator and each other one after a semicolon
abbrev pub each_behind : List ℕ → List (List ℕ) → List ℕ
each_behind separator [] = []
each_behind separator (text ∷ texts) = separator ++ text ++ each_behind (codes "; ") texts

-- the octets after the first `count`; None if there are fewer
abbrev pub rest_behind : ℕ → List ℕ → Option (List ℕ)
rest_behind count octets = if nat_lt (length octets) count then None else Some (drop count octets)

-- the octets after the first `count` and before the last two
abbrev pub octets_between : ℕ → List ℕ → List ℕ
octets_between count octets = take (length octets - 2 - count) (drop count octets)

-- the texts of the blocks that octets are
abbrev pub block_texts : List ℕ → List (List ℕ)
block_texts octets = map block_text (unwrap_or (blocks_of octets) [])

-- the numbers of the bits that are 1, from this number on
abbrev pub set_from : List ℕ → ℕ → List ℕ
set_from octets number = filter (is_set_in octets) (range_with_len number (length octets * 8 - number))

-- numbers, the first after a separator and each other one after a comma
abbrev pub numbers_behind : List ℕ → List ℕ → List ℕ
numbers_behind separator [] = []
numbers_behind separator (number ∷ numbers) = separator ++ decimal number ++ numbers_behind (codes ", ") numbers
