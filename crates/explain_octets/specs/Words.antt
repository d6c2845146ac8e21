-- detail
-- The parts that the texts of octets and bits are made of (own).
use Rattle.std.specs.Prelude.{codes, ℕ, ◌/◌, ◌%◌, ◌==◌, ◌||◌, Bool, true, false, if◌then◌else◌, List, [], ◌∷◌, ◌++◌, filter, map, Option, Some, None}
use Rattle.std.specs.Fmt.{digit_glyph}
use Rattle.std.specs.List.{join_by, list_any}
use Rattle.dp_telegram.specs.FunctionCode.{is_set}

-- an octet as two hex digits, in lower case and in capitals
abbrev pub hex_pair : ℕ → List ℕ
hex_pair octet = digit_glyph false (octet / 16) ∷ digit_glyph false (octet % 16) ∷ []

abbrev pub capital_pair : ℕ → List ℕ
capital_pair octet = digit_glyph true (octet / 16) ∷ digit_glyph true (octet % 16) ∷ []

-- octets as pairs of hex digits, separated by spaces
abbrev pub hex_text : List ℕ → List ℕ
hex_text octets = join_by hex_pair (codes " ") octets

-- the text of the row with this number, if there is one
abbrev pub text_in : List (ℕ × List ℕ) → ℕ → Option (List ℕ)
text_in [] number = None
text_in (row ∷ rows) number = if number == row.0 then Some row.1 else text_in rows number

-- an ident number, high octet first
abbrev pub ident_text : ℕ → ℕ → List ℕ
ident_text high low = codes "ident " ++ capital_pair high ++ capital_pair low

-- the names of the rows that are set
abbrev pub names_of : List (Bool × List ℕ) → List (List ℕ)
names_of rows = map (λ row. row.1) (filter (λ row. row.0) rows)

-- texts, separated by commas
abbrev pub joined : List (List ℕ) → List ℕ
joined texts = join_by (λ text. text) (codes ", ") texts

-- the names of the rows that are set, and a text after them; another text if none is set
unfoldable pub listed : List ℕ → List ℕ → List (Bool × List ℕ) → List ℕ
listed none behind rows = if list_any (λ row. row.0) rows then joined (names_of rows) ++ behind else none

-- the groups, one for each bit, numbered from 1 (IEC 61158-6-3, Group_Ident and Group_Select)
abbrev pub group_rows : ℕ → List (Bool × List ℕ)
group_rows octet =
    (is_set 0 octet, codes "1")
    ∷ (is_set 1 octet, codes "2")
    ∷ (is_set 2 octet, codes "3")
    ∷ (is_set 3 octet, codes "4")
    ∷ (is_set 4 octet, codes "5")
    ∷ (is_set 5 octet, codes "6")
    ∷ (is_set 6 octet, codes "7")
    ∷ (is_set 7 octet, codes "8")
    ∷ []

-- exactly one bit is set
unfoldable pub is_one_group : ℕ → Bool
is_one_group octet =
    octet == 1 || octet == 2 || octet == 4 || octet == 8 || octet == 16 || octet == 32 || octet == 64 || octet == 128

abbrev pub groups_word : ℕ → List ℕ
groups_word octet = if is_one_group octet then codes "group " else codes "groups "

-- the groups of an octet; another text if there are none
unfoldable pub groups_text : List ℕ → ℕ → List ℕ
groups_text none octet = if octet == 0 then none else groups_word octet ++ listed [] [] (group_rows octet)
