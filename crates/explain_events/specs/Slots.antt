-- detail
-- Two configurations, compared slot by slot (own). A slot is the place of an identifier in a configuration, from 1.
use Rattle.std.specs.Prelude.{codes, ℕ, ◌+◌, if◌then◌else◌, Bool, List, [], ◌∷◌, ◌++◌, is_some, unwrap_or}
use Rattle.std.specs.Fmt.{decimal}
use Rattle.std.specs.List.{join_by}
use Rattle.dp_cfg.specs.Choosing.{same_octets}
use Rattle.explain_octets.specs.Words.{hex_text}
use Rattle.explain_octets.specs.Configurations.{slots_of}

-- ---- the slots of a configuration

-- the octets don't end within an identifier
abbrev pub is_whole : List ℕ → Bool
is_whole octets = is_some (slots_of octets)

-- the slots of octets that don't end within an identifier
abbrev pub slots_in : List ℕ → List (List ℕ)
slots_in octets = unwrap_or (slots_of octets) []

-- ---- the differences of two configurations

-- a slot in which they differ, by its number, the octets of the request and those of the slave
abbrev pub other_slot : ℕ → List ℕ → List ℕ → List ℕ
other_slot number sent own = codes "slot " ++ decimal number ++ codes " is " ++ hex_text sent ++ codes ", the slave has " ++ hex_text own

-- a slot that both have; no text if its octets are the same
abbrev pub other_slots : ℕ → List ℕ → List ℕ → List (List ℕ)
other_slots number sent own = if same_octets sent own then [] else other_slot number sent own ∷ []

-- a slot that only one of the two has, with these words at the end
abbrev pub single_slot : List ℕ → ℕ → List ℕ → List ℕ
single_slot words number slot = codes "slot " ++ decimal number ++ codes ", " ++ hex_text slot ++ codes ", " ++ words

abbrev pub single_slots : List ℕ → ℕ → List (List ℕ) → List (List ℕ)
single_slots words number [] = []
single_slots words number (slot ∷ slots) = single_slot words number slot ∷ single_slots words (number + 1) slots

-- the differences from the slot with this number on: the slots of the request, and those of the slave
abbrev pub slot_differences : ℕ → List (List ℕ) → List (List ℕ) → List (List ℕ)
slot_differences number [] own = single_slots (codes "is missing") number own
slot_differences number (slot ∷ sent) [] = single_slots (codes "is not in the slave") number (slot ∷ sent)
slot_differences number (slot ∷ sent) (own_slot ∷ own) = other_slots number slot own_slot ++ slot_differences (number + 1) sent own

-- all differences of a configuration in a request from that of the slave
abbrev pub compared_words : List ℕ → List ℕ → List ℕ
compared_words sent own = join_by (λ text. text) (codes "; ") (slot_differences 1 (slots_in sent) (slots_in own))
