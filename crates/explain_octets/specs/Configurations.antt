-- detail
-- Configuration identifiers in words (IEC 61158-6-3, configuration identifiers).
use Rattle.std.specs.Prelude.{codes, ℕ, zero, suc, ◌+◌, ◌==◌, if◌then◌else◌, List, [], ◌∷◌, ◌++◌, length, map, Option, Some, None}
use Rattle.std.specs.Fmt.{decimal}
use Rattle.std.specs.List.{join_by}
use Rattle.std.specs.Option.{option_map, option_map_or}
use Rattle.dp_cfg.specs.Identifiers.{Identifier, bits_3_0, bits_5_0, bits_5_4, bits_7_6, bit_6}
use Rattle.dp_cfg.specs.Reading.{first_identifier, split_of}
use Rattle.explain_octets.specs.Words.{hex_text}

-- a number of octets, or of words of two octets each if bit 6 is 1
abbrev pub unit_text : ℕ → ℕ → List ℕ
unit_text words count =
    if words == 1 then (if count == 1 then codes " word" else codes " words")
    else if count == 1 then codes " octet" else codes " octets"

unfoldable pub amount_text : ℕ → ℕ → List ℕ
amount_text words count = decimal count ++ unit_text words count

-- the general format has the length less one in bits 3 to 0; a length octet has it in bits 5 to 0
abbrev pub general_amount : ℕ → List ℕ
general_amount head = amount_text (bit_6 head) (bits_3_0 head + 1)

abbrev pub announced_amount : ℕ → List ℕ
announced_amount octet = amount_text (bit_6 octet) (bits_5_0 octet + 1)

-- the manufacturer's octets, if there are any
abbrev pub maker_text : List ℕ → List ℕ
maker_text [] = []
maker_text (octet ∷ octets) = codes ", vendor " ++ hex_text (octet ∷ octets)

-- the special format after its head: one length octet; or one for outputs and then one for inputs
abbrev pub with_one : List ℕ → List ℕ → List ℕ
with_one label [] = []
with_one label (octet ∷ maker) = label ++ announced_amount octet ++ maker_text maker

abbrev pub with_both : List ℕ → List ℕ
with_both [] = []
with_both (outputs ∷ []) = []
with_both (outputs ∷ inputs ∷ maker) = codes "outputs " ++ announced_amount outputs ++ codes ", inputs " ++ announced_amount inputs ++ maker_text maker

-- the special format by bits 7 and 6 of its head
unfoldable pub special_text : ℕ → List ℕ → List ℕ
special_text head rest =
    if bits_7_6 head == 0 then codes "empty slot" ++ maker_text rest
    else if bits_7_6 head == 1 then with_one (codes "inputs ") rest
    else if bits_7_6 head == 2 then with_one (codes "outputs ") rest
    else with_both rest

-- the general format by bits 5 and 4 of its head; None is the special format
abbrev pub general_label : ℕ → Option (List ℕ)
general_label head =
    if bits_5_4 head == 1 then Some (codes "inputs ")
    else if bits_5_4 head == 2 then Some (codes "outputs ")
    else if bits_5_4 head == 3 then Some (codes "inputs and outputs ")
    else None

abbrev pub labelled_text : Option (List ℕ) → ℕ → List ℕ → List ℕ
labelled_text None head rest = special_text head rest
labelled_text (Some label) head rest = label ++ general_amount head

-- the meaning of an identifier
unfoldable pub meaning_text : List ℕ → List ℕ
meaning_text [] = []
meaning_text (head ∷ rest) = labelled_text (general_label head) head rest

-- the octets of an identifier, and the octets after it (own)
abbrev pub octets_and_rest : Identifier × List ℕ → List ℕ × List ℕ
octets_and_rest first = (first.0.octets, first.1)

-- the octets of each identifier; None if the last one is cut (own)
abbrev pub octets_of_each : List Identifier → List (List ℕ)
octets_of_each identifiers = map (λ identifier. identifier.octets) identifiers

abbrev pub slots_of : List ℕ → Option (List (List ℕ))
slots_of octets = option_map octets_of_each (split_of octets)

-- the octets of an identifier, and their meaning
abbrev pub identifier_text : List ℕ → List ℕ
identifier_text octets = hex_text octets ++ codes " " ++ meaning_text octets

-- octets that end within an identifier
abbrev pub cut_text : List ℕ → List ℕ
cut_text octets = hex_text octets ++ codes " ends within an identifier"

-- the identifiers in octets, of at most this length, one after another; if the last one is cut, the text says so
abbrev pub identifiers_within : ℕ → List ℕ → List (List ℕ)
identifiers_within most [] = []
identifiers_within zero (head ∷ rest) = []
identifiers_within (suc most) (head ∷ rest) =
    option_map_or (λ first. identifier_text first.0.octets ∷ identifiers_within most first.1)
    (first_identifier (head ∷ rest)) (cut_text (head ∷ rest) ∷ [])

unfoldable pub identifiers_of : List ℕ → List (List ℕ)
identifiers_of octets = identifiers_within (length octets) octets

-- the octets of a configuration, one identifier after another
unfoldable pub configuration_text : List ℕ → List ℕ
configuration_text octets = join_by (λ text. text) (codes "; ") (identifiers_of octets)
