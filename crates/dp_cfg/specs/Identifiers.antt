-- promise
-- What configuration octets mean: identifiers one after another, each with its inputs and outputs in octets.
use Rattle.std.specs.Prelude.{◌≡◌, ℕ, ◌+◌, ◌*◌, ◌/◌, ◌%◌, ◌==◌, if◌then◌else◌, List, [], ◌∷◌, length, sum_by}
use Rattle.std.specs.List.{flat_map, AllByRecursion}

-- one identifier: its octets, and the inputs and outputs that it stands for, in octets (IEC 61158-6-3, configuration identifiers)
pub record Identifier : Type 0 where
  pub octets : List ℕ
  pub inputs : ℕ
  pub outputs : ℕ

-- an identifier by its octets, inputs and outputs
abbrev pub identifier : List ℕ → ℕ → ℕ → Identifier
identifier octets inputs outputs = record { octets = octets; inputs = inputs; outputs = outputs }

-- fields of an octet, named by their highest and lowest bit (own): the length of a general identifier, or the maker's count
abbrev pub bits_3_0 : ℕ → ℕ
bits_3_0 octet = octet % 16

-- the length in a length octet
abbrev pub bits_5_0 : ℕ → ℕ
bits_5_0 octet = octet % 64

-- 00 special, 01 inputs, 10 outputs, 11 both
abbrev pub bits_5_4 : ℕ → ℕ
bits_5_4 octet = octet / 16 % 4

-- 1 for words
abbrev pub bit_6 : ℕ → ℕ
bit_6 octet = octet / 64 % 2

-- of a special identifier: 00 no length octet, 01 one for inputs, 10 one for outputs, 11 two, outputs first
abbrev pub bits_7_6 : ℕ → ℕ
bits_7_6 octet = octet / 64 % 4

-- octets of one unit: with bit 6 the length counts words of two octets; bit 7, consistency, changes no length (IEC 61158-6-3, identifier byte)
abbrev pub unit_octets : ℕ → ℕ
unit_octets octet = if bit_6 octet == 1 then 2 else 1

-- general format: bits 3 to 0 are the length less one (IEC 61158-6-3, identifier byte)
abbrev pub general_octets : ℕ → ℕ
general_octets head = (bits_3_0 head + 1) * unit_octets head

-- length octet: bits 5 to 0 are the length less one (IEC 61158-6-3, length octet)
abbrev pub announced_octets : ℕ → ℕ
announced_octets octet = (bits_5_0 octet + 1) * unit_octets octet

-- special format: bits 3 to 0 count the maker's octets, and 15 means none (IEC 61158-6-3, special identifier format)
abbrev pub maker_count : ℕ → ℕ
maker_count head = if bits_3_0 head == 15 then 0 else bits_3_0 head

-- special format: bits 5 and 4 are 00, bits 7 and 6 give the length octets that follow, and the maker's octets follow those (IEC 61158-6-3, special
-- identifier format)
abbrev pub IsSpecial : ℕ → ℕ → List ℕ → Type 0
IsSpecial head lengths maker = (bits_5_4 head ≡ 0) × (bits_7_6 head ≡ lengths) × (length maker ≡ maker_count head)

-- the identifiers, a row for each: the bits of the head from 7 to 0, its octets, the inputs and the outputs (IEC 61158-6-3,
-- configuration identifiers). c is 1 for consistency, w is 1 for words, l.. is the length less one, n.. counts the maker's octets
pub data IsIdentifier (i : Identifier) : Type 0 where
  -- cw01 llll: inputs
  general_inputs : (head : ℕ) → bits_5_4 head ≡ 1
      → i ≡ identifier (head ∷ []) (general_octets head) 0 → IsIdentifier i
  -- cw10 llll: outputs
  general_outputs : (head : ℕ) → bits_5_4 head ≡ 2
      → i ≡ identifier (head ∷ []) 0 (general_octets head) → IsIdentifier i
  -- cw11 llll: inputs and as many outputs
  general_both : (head : ℕ) → bits_5_4 head ≡ 3
      → i ≡ identifier (head ∷ []) (general_octets head) (general_octets head) → IsIdentifier i
  -- 0000 nnnn: an empty place
  empty_place : (head : ℕ) (maker : List ℕ) → IsSpecial head 0 maker
      → i ≡ identifier (head ∷ maker) 0 0 → IsIdentifier i
  -- 0100 nnnn, then cwll llll: inputs
  special_inputs : (head inputs : ℕ) (maker : List ℕ) → IsSpecial head 1 maker
      → i ≡ identifier (head ∷ inputs ∷ maker) (announced_octets inputs) 0 → IsIdentifier i
  -- 1000 nnnn, then cwll llll: outputs
  special_outputs : (head outputs : ℕ) (maker : List ℕ) → IsSpecial head 2 maker
      → i ≡ identifier (head ∷ outputs ∷ maker) 0 (announced_octets outputs) → IsIdentifier i
  -- 1100 nnnn, then cwll llll twice: outputs, and then inputs
  special_both : (head outputs inputs : ℕ) (maker : List ℕ) → IsSpecial head 3 maker
      → i ≡ identifier (head ∷ outputs ∷ inputs ∷ maker) (announced_octets inputs) (announced_octets outputs) → IsIdentifier i

-- the octets are those of the identifiers, one after another (IEC 61158-6-3, Chk_Cfg request)
pub record IsSplit (octets : List ℕ) (identifiers : List Identifier) : Type 0 where
  pub joined : octets ≡ flat_map (λ i. i.octets) identifiers
  pub each : AllByRecursion IsIdentifier identifiers

-- inputs of all identifiers, in octets (IEC 61158-6-3, Chk_Cfg request)
abbrev pub input_sum : List Identifier → ℕ
input_sum identifiers = sum_by (λ i. i.inputs) identifiers

-- outputs of all identifiers, in octets (IEC 61158-6-3, Chk_Cfg request)
abbrev pub output_sum : List Identifier → ℕ
output_sum identifiers = sum_by (λ i. i.outputs) identifiers

-- the greatest number of octets of inputs, of outputs and of a configuration: as many as a telegram has room for (IEC 61158-6-3, data unit)
abbrev pub most_octets : ℕ
most_octets = 244
