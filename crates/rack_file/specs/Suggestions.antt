-- detail
-- The key that an unknown key may stand for (own).
use Rattle.std.specs.Prelude.{codes, ℕ, nat_le, nat_lt, if◌then◌else◌, List, [], ◌∷◌, ◌++◌, length, Option, Some, None}
use Rattle.std.specs.Str.{chars}
use Rattle.strsim.specs.Edits.{osa_table}
use Rattle.rack_file.specs.declared.misread.Place.{Place}
use Rattle.rack_file.specs.declared.misread.Place.TheVariants.{Rack, Line, Slave}
use Rattle.rack_file.specs.declared.misread.Cause.{Cause}
use Rattle.rack_file.specs.declared.misread.Cause.TheVariants.{NoSuchKey}
use Rattle.rack_file.specs.KeyFault.{KeyFault}
use Rattle.rack_file.specs.Misreads.{key_fault_text}
use Rattle.rack_file.specs.RackFile.{rack_keys, line_keys, slave_keys}

-- the keys that the table in a place can have
abbrev pub keys_at : Place → List (List ℕ)
keys_at Rack = rack_keys
keys_at (Line line) = line_keys
keys_at (Slave line slave) = slave_keys

-- how many letters have to be inserted, deleted or replaced, or swapped with the next one
abbrev pub edits_apart : List ℕ → List ℕ → ℕ
edits_apart key name = (osa_table (chars key) (chars name)).last_row (length (chars name))

-- the first of these names that is at most this number of edits away
abbrev pub first_near : ℕ → List ℕ → List (List ℕ) → Option (List ℕ)
first_near most key [] = None
first_near most key (name ∷ names) = if nat_le (edits_apart key name) most then Some name else first_near most key names

-- this one, or else the other
abbrev pub or_else : Option (List ℕ) → Option (List ℕ) → Option (List ℕ)
or_else (Some name) other = Some name
or_else None other = other

-- a name that is one edit away; or else, for a key of six octets or more, one that is two edits away
abbrev pub nearest_key : List ℕ → List (List ℕ) → Option (List ℕ)
nearest_key key names = or_else (first_near 1 key names) (if nat_lt (length key) 6 then None else first_near 2 key names)

-- only for a key that the table can't have
abbrev pub suggested_key : Place → List ℕ → Cause → Option (List ℕ)
suggested_key place key NoSuchKey = nearest_key key (keys_at place)
suggested_key place key other = None

abbrev pub with_suggestion : List ℕ → Option (List ℕ) → List ℕ
with_suggestion text None = text
with_suggestion text (Some name) = text ++ codes ", perhaps \"" ++ name ++ codes "\""

-- the text for a key that isn't accepted
abbrev pub reported_key : KeyFault → List ℕ
reported_key bad = with_suggestion (key_fault_text bad) (suggested_key bad.place bad.key bad.cause)
