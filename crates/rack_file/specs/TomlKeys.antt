-- detail
-- Reading the keys of a TOML table, up to the first fault: a value gives its cause, a key of a table gives its cause and its place (own).
use Rattle.std.specs.Prelude.{ℕ, ◌+◌, pos, negsuc, ℤ, Bool, ◌&&◌, nat_le, if◌then◌else◌, List, [], ◌∷◌, length, Result, Ok, Err, is_some}
use Rattle.std.specs.List.{list_any}
use Rattle.std.specs.Option.{ok_or, option_map_or}
use Rattle.std.specs.Str.{bytes_eq}
use Rattle.hex.specs.Hex.{decode_of}
use Rattle.hex.specs.declared.error.FromHexError.{FromHexError}
use Rattle.toml.specs.Data.{Data, Items, no_items, item, Members, no_members, member, get_member, as_integer, as_bool, as_str, as_array, as_table}
use Rattle.rack_file.specs.declared.misread.Place.{Place}
use Rattle.rack_file.specs.declared.misread.Cause.{Cause}
use Rattle.rack_file.specs.declared.misread.Cause.TheVariants.{NoSuchKey, Missing, NoNumber, NoText, NoTextOrArray, NoHex, NoFlag, NoArray, Count, NoTable}
use Rattle.rack_file.specs.declared.misread.Misread.{Misread}
use Rattle.rack_file.specs.Misreads.{bad_key}

-- the second step, if the first one gave a value
infixl 10 ◌>>=◌
abbrev pub ◌>>=◌ : {A B E : Type 0} → Result A E → (A → Result B E) → Result B E
(Ok x) >>= f = f x
(Err fault) >>= f = Err fault

-- what a function returned, seen by view
abbrev pub seen : {A B E : Type 0} → (A → B) → Result A E → Result B E
seen view (Ok x) = Ok (view x)
seen view (Err fault) = Err fault

-- ---- a value

-- a number from `least` to `most`
unfoldable pub number_from : ℕ → ℕ → Data → Result ℕ Cause
number_from least most value = do
  number ← ok_or (as_integer value) (NoNumber least most)
  within number
  where
    within : ℤ → Result ℕ Cause
    within (pos number) = if nat_le least number && nat_le number most then Ok number else Err (NoNumber least most)
    within (negsuc number) = Err (NoNumber least most)

-- a truth value
abbrev pub flag_of : Data → Result Bool Cause
flag_of value = ok_or (as_bool value) NoFlag

abbrev pub text_of : Data → Result (List ℕ) Cause
text_of value = ok_or (as_str value) NoText

-- hex text is whole pairs of digits
abbrev pub decoded : Result (List ℕ) FromHexError → Result (List ℕ) Cause
decoded (Ok octets) = Ok octets
decoded (Err fault) = Err NoHex

-- the octets that hex text writes
unfoldable pub octets_of : Data → Result (List ℕ) Cause
octets_of value = do
  text ← text_of value
  decoded (decode_of text)

-- the elements of an array
abbrev pub elements : Items → List Data
elements no_items = []
elements (item first others) = first ∷ elements others

-- the elements of an array; another value is wrong for this cause
unfoldable pub elements_of : Cause → Data → Result (List Data) Cause
elements_of cause value = do
  items ← ok_or (as_array value) cause
  Ok (elements items)

abbrev pub array_of : Data → Result (List Data) Cause
array_of value = elements_of NoArray value

-- the elements of an array; a text counts as an array of only this text
unfoldable pub text_or_array_of : Data → Result (List Data) Cause
text_or_array_of value = if is_some (as_str value) then Ok (value ∷ []) else elements_of NoTextOrArray value

-- from `least` to `most` elements
abbrev pub counted : ℕ → ℕ → List Data → Result (List Data) Cause
counted least most values = if nat_le least (length values) && nat_le (length values) most then Ok values else Err (Count least most)

-- an element of an array of tables
abbrev pub table_of : Data → Result Members Cause
table_of value = ok_or (as_table value) NoTable

-- ---- a table

-- what was read of the value at a key of the table in this place; a fault gets the place and the key
abbrev pub at_key : {A : Type 0} → Place → List ℕ → Result A Cause → Result A Misread
at_key place key (Ok x) = Ok x
at_key place key (Err cause) = Err (bad_key place key cause)

-- the table in this place may have only these keys
abbrev pub only : Place → List (List ℕ) → Members → Result (Unit {0}) Misread
only place known no_members = Ok tt
only place known (member key value others) = if list_any (bytes_eq key) known then only place known others else Err (bad_key place key NoSuchKey)

-- the value at a key that the table must have
abbrev pub required_value : Place → List ℕ → Members → Result Data Misread
required_value place key table = ok_or (get_member key table) (bad_key place key Missing)

-- what is read at a key that the table must have
unfoldable pub required : {A : Type 0} → (Data → Result A Cause) → Place → List ℕ → Members → Result A Misread
required read place key table = do
  value ← required_value place key table
  at_key place key (read value)

-- what is read at a key, or this default if the table doesn't have it
unfoldable pub optional : {A : Type 0} → A → (Data → Result A Cause) → Place → List ℕ → Members → Result A Misread
optional default read place key table = option_map_or (λ value. at_key place key (read value)) (get_member key table) (Ok default)

-- ---- the elements of an array

-- what is read of each element, the first of them at this position
unfoldable pub each_from : {A E : Type 0} → (ℕ → Data → Result A E) → ℕ → List Data → Result (List A) E
each_from read position [] = Ok []
each_from read position (value ∷ values) = do
  first ← read position value
  others ← each_from read (position + 1) values
  Ok (first ∷ others)

-- what is read of each element, independent of its position
abbrev pub each_of : {A E : Type 0} → (Data → Result A E) → List Data → Result (List A) E
each_of read values = each_from (λ position. read) 1 values
