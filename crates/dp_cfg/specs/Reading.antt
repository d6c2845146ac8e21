-- detail
-- Configuration octets read from left to right: the relation of `Identifiers` in a form that computes.
use Rattle.std.specs.Prelude.{ℕ, zero, suc, ◌==◌, nat_lt, ◌||◌, if◌then◌else◌, List, [], ◌∷◌, length, take, drop, Option, Some, None, unwrap_or, option_and_then, Result, Ok, Err}
use Rattle.std.specs.Option.{option_map}
use Rattle.dp_cfg.specs.Identifiers.{Identifier, identifier, bits_5_4, bits_7_6, general_octets, announced_octets, maker_count, input_sum, output_sum, most_octets}
use Rattle.dp_cfg.specs.declared.fault.CfgFault.{CfgFault}
use Rattle.dp_cfg.specs.declared.fault.CfgFault.TheVariants.{Cut, TooLong}

-- the numbers of the faults (own)
abbrev pub fault_code : CfgFault → ℕ
fault_code Cut = 1
fault_code TooLong = 2

-- the identifier that ends with `count` octets of its maker, and the octets after it; None if there are fewer (own)
abbrev pub with_maker : (List ℕ → Identifier) → ℕ → List ℕ → Option (Identifier × List ℕ)
with_maker made count rest =
    if nat_lt (length rest) count then None else Some (made (take count rest), drop count rest)

-- an empty place, from the octets after its head (own)
abbrev pub empty_at : ℕ → List ℕ → Option (Identifier × List ℕ)
empty_at head rest = with_maker (λ maker. identifier (head ∷ maker) 0 0) (maker_count head) rest

-- a special identifier with one length octet, for inputs (own)
abbrev pub inputs_at : ℕ → List ℕ → Option (Identifier × List ℕ)
inputs_at head [] = None
inputs_at head (inputs ∷ rest) =
    with_maker (λ maker. identifier (head ∷ inputs ∷ maker) (announced_octets inputs) 0) (maker_count head) rest

-- a special identifier with one length octet, for outputs (own)
abbrev pub outputs_at : ℕ → List ℕ → Option (Identifier × List ℕ)
outputs_at head [] = None
outputs_at head (outputs ∷ rest) =
    with_maker (λ maker. identifier (head ∷ outputs ∷ maker) 0 (announced_octets outputs)) (maker_count head) rest

-- a special identifier with two length octets, for outputs and then for inputs (own)
abbrev pub both_at : ℕ → List ℕ → Option (Identifier × List ℕ)
both_at head [] = None
both_at head (outputs ∷ []) = None
both_at head (outputs ∷ inputs ∷ rest) =
    with_maker (λ maker. identifier (head ∷ outputs ∷ inputs ∷ maker) (announced_octets inputs) (announced_octets outputs))
    (maker_count head) rest

-- a special identifier, by bits 7 and 6 of its head (own)
abbrev pub special_at : ℕ → List ℕ → Option (Identifier × List ℕ)
special_at head rest =
    if bits_7_6 head == 0 then empty_at head rest
    else if bits_7_6 head == 1 then inputs_at head rest
    else if bits_7_6 head == 2 then outputs_at head rest
    else both_at head rest

-- an identifier, by bits 5 and 4 of its head (own)
abbrev pub identifier_at : ℕ → List ℕ → Option (Identifier × List ℕ)
identifier_at head rest =
    if bits_5_4 head == 1 then Some (identifier (head ∷ []) (general_octets head) 0, rest)
    else if bits_5_4 head == 2 then Some (identifier (head ∷ []) 0 (general_octets head), rest)
    else if bits_5_4 head == 3 then Some (identifier (head ∷ []) (general_octets head) (general_octets head), rest)
    else special_at head rest

-- the first identifier, and the octets after it; None if it is cut (own)
abbrev pub first_identifier : List ℕ → Option (Identifier × List ℕ)
first_identifier [] = None
first_identifier (head ∷ rest) = identifier_at head rest

-- the identifiers of octets of at most this length (own)
abbrev pub split_within : ℕ → List ℕ → Option (List Identifier)
split_within most [] = Some []
split_within zero (head ∷ rest) = None
split_within (suc most) (head ∷ rest) =
    option_and_then (λ first. option_map (λ others. first.0 ∷ others) (split_within most first.1))
    (first_identifier (head ∷ rest))

-- the identifiers that these octets are; None if the last is cut (own)
abbrev pub split_of : List ℕ → Option (List Identifier)
split_of octets = split_within (length octets) octets

-- inputs of a configuration, in octets (own)
abbrev pub input_octets : List ℕ → ℕ
input_octets octets = input_sum (unwrap_or (split_of octets) [])

-- outputs of a configuration, in octets (own)
abbrev pub output_octets : List ℕ → ℕ
output_octets octets = output_sum (unwrap_or (split_of octets) [])

-- no split is Cut; a split with a sum above the most is TooLong (own)
abbrev pub fault_in : Option (List Identifier) → Option CfgFault
fault_in None = Some Cut
fault_in (Some identifiers) =
    if nat_lt most_octets (input_sum identifiers) || nat_lt most_octets (output_sum identifiers) then Some TooLong
    else None

-- the fault of octets that are no configuration (own)
abbrev pub fault_of : List ℕ → Option CfgFault
fault_of octets = fault_in (split_of octets)

-- the right value if there is no fault, or else the fault (own)
abbrev pub unless_faulty : {A : Type 0} → Option CfgFault → A → Result A CfgFault
unless_faulty None right = Ok right
unless_faulty (Some fault) right = Err fault

-- the octets as a configuration, or the fault (own)
abbrev pub reading_of : List ℕ → Result (List ℕ) CfgFault
reading_of octets = unless_faulty (fault_of octets) octets
