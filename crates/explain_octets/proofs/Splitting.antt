-- The identifiers of octets, one after another.
use Rattle.std.proofs.Common.{◌≡◌, ℕ, zero, suc, ◌<◌, ◌≤◌, ◌-◌, Bool, true, false, if◌then◌else◌, codes, List, [], ◌∷◌, ◌++◌, length, take, drop, Option, Some, None, refl, ap, sym, ◌∙◌, arith, length-append, append_assoc}
use Rattle.std.specs.Prelude.{IfSome, nat_lt, ◌==◌}
use Rattle.std.specs.Option.{option_map, option_map_or}
use Rattle.std.specs.List.{flat_map, join_by}
use Rattle.std.proofs.lemmas.List.{take_all, take_at, take-append-drop}
use Rattle.std.proofs.lemmas.Option.{same_Some, IfSome_then}
use Rattle.dp_cfg.specs.Identifiers.{Identifier, identifier, bits_5_4, bits_7_6, maker_count, announced_octets, general_octets}
use Rattle.dp_cfg.specs.Reading.{with_maker, first_identifier, special_at, empty_at, inputs_at, outputs_at, both_at}
use Rattle.explain_octets.specs.Configurations.{identifier_text, identifiers_within, identifiers_of, configuration_text, cut_text, octets_and_rest}
use Rattle.explain_octets.specs.PrivateWords.{each_behind, rest_behind}

-- the octets are those of an identifier, at least one octet, and the rest
pub record Stands (octets : List ℕ) (first : Identifier × List ℕ) : Type 0 where
  pub joined : octets ≡ first.0.octets ++ first.1
  pub some : 0 < length first.0.octets

-- if a row applies, or the rows after it do
either_stands : (octets : List ℕ) (b : Bool) (here there : Option (Identifier × List ℕ)) → IfSome here (Stands octets) → IfSome there (Stands octets) → IfSome (if b then here else there) (Stands octets)
either_stands octets true here there p q = p
either_stands octets false here there p q = q

-- what is found with its manufacturer's octets is at the front
maker_stands : (front : List ℕ) (own : Identifier) (count : ℕ) (rest : List ℕ) → 0 < length own.octets → own.octets ≡ front ++ take count rest → Stands (front ++ rest) (own, drop count rest)
maker_stands front own count rest some octets = record {
  joined = ap (λ all. front ++ all) (sym (take-append-drop count rest)) ∙ sym (append_assoc front (take count rest) (drop count rest)) ∙ ap (λ these. these ++ drop count rest) (sym octets);
  some = some;
}

with_maker_stands : (front : List ℕ) (made : List ℕ → Identifier) (count : ℕ) (rest : List ℕ) → ((maker : List ℕ) → 0 < length (made maker).octets) → ((maker : List ℕ) → (made maker).octets ≡ front ++ maker) → IfSome (with_maker made count rest) (Stands (front ++ rest))
with_maker_stands front made count rest some octets =
    either_stands (front ++ rest) (nat_lt (length rest) count) None (Some (made (take count rest), drop count rest)) tt
    (maker_stands front (made (take count rest)) count rest (some (take count rest)) (octets (take count rest)))

empty_stands : (head : ℕ) (rest : List ℕ) → IfSome (empty_at head rest) (Stands (head ∷ rest))
empty_stands head rest = with_maker_stands (head ∷ []) (λ m. identifier (head ∷ m) 0 0) (maker_count head) rest (λ _. omega arith) (λ _. refl)

inputs_stand : (head : ℕ) (rest : List ℕ) → IfSome (inputs_at head rest) (Stands (head ∷ rest))
inputs_stand head [] = tt
inputs_stand head (inputs ∷ rest) =
    with_maker_stands (head ∷ inputs ∷ []) (λ m. identifier (head ∷ inputs ∷ m) (announced_octets inputs) 0) (maker_count head) rest (λ _. omega arith) (λ _. refl)

outputs_stand : (head : ℕ) (rest : List ℕ) → IfSome (outputs_at head rest) (Stands (head ∷ rest))
outputs_stand head [] = tt
outputs_stand head (outputs ∷ rest) =
    with_maker_stands (head ∷ outputs ∷ []) (λ m. identifier (head ∷ outputs ∷ m) 0 (announced_octets outputs)) (maker_count head) rest (λ _. omega arith) (λ _. refl)

both_stand : (head : ℕ) (rest : List ℕ) → IfSome (both_at head rest) (Stands (head ∷ rest))
both_stand head [] = tt
both_stand head (outputs ∷ []) = tt
both_stand head (outputs ∷ inputs ∷ rest) =
    with_maker_stands (head ∷ outputs ∷ inputs ∷ []) (λ m. identifier (head ∷ outputs ∷ inputs ∷ m) (announced_octets inputs) (announced_octets outputs)) (maker_count head) rest (λ _. omega arith) (λ _. refl)

-- the last two rows and the last three of `special_at`
abbrev outputs_or_both : ℕ → List ℕ → Option (Identifier × List ℕ)
outputs_or_both head rest = if bits_7_6 head == 2 then outputs_at head rest else both_at head rest

abbrev not_empty_at : ℕ → List ℕ → Option (Identifier × List ℕ)
not_empty_at head rest = if bits_7_6 head == 1 then inputs_at head rest else outputs_or_both head rest

special_stands : (head : ℕ) (rest : List ℕ) → IfSome (special_at head rest) (Stands (head ∷ rest))
special_stands head rest =
    let last = either_stands (head ∷ rest) (bits_7_6 head == 2) (outputs_at head rest) (both_at head rest) (outputs_stand head rest) (both_stand head rest) in
    let others = either_stands (head ∷ rest) (bits_7_6 head == 1) (inputs_at head rest) (outputs_or_both head rest) (inputs_stand head rest) last in
    either_stands (head ∷ rest) (bits_7_6 head == 0) (empty_at head rest) (not_empty_at head rest) (empty_stands head rest) others

-- an identifier of the general format is at the front
abbrev general_at : ℕ → List ℕ → ℕ → ℕ → Option (Identifier × List ℕ)
general_at head rest inputs outputs = Some (identifier (head ∷ []) inputs outputs, rest)

general_stands : (head : ℕ) (rest : List ℕ) (inputs outputs : ℕ) → IfSome (general_at head rest inputs outputs) (Stands (head ∷ rest))
general_stands head rest inputs outputs = record { joined = refl; some = omega arith }

-- the last two rows and the last three of `identifier_at`
abbrev both_or_special : ℕ → List ℕ → Option (Identifier × List ℕ)
both_or_special head rest = if bits_5_4 head == 3 then general_at head rest (general_octets head) (general_octets head) else special_at head rest

abbrev no_inputs_at : ℕ → List ℕ → Option (Identifier × List ℕ)
no_inputs_at head rest = if bits_5_4 head == 2 then general_at head rest 0 (general_octets head) else both_or_special head rest

-- what is found first is at the front
pub first_stands : (octets : List ℕ) → IfSome (first_identifier octets) (Stands octets)
first_stands [] = tt
first_stands (head ∷ rest) =
    let length_there = general_octets head in
    let last = either_stands (head ∷ rest) (bits_5_4 head == 3) (general_at head rest length_there length_there) (special_at head rest) (general_stands head rest length_there length_there) (special_stands head rest) in
    let others = either_stands (head ∷ rest) (bits_5_4 head == 2) (general_at head rest 0 length_there) (both_or_special head rest) (general_stands head rest 0 length_there) last in
    either_stands (head ∷ rest) (bits_5_4 head == 1) (general_at head rest length_there 0) (no_inputs_at head rest) (general_stands head rest length_there 0) others

-- fewer octets follow an identifier
pub first_shortens : (octets : List ℕ) → IfSome (first_identifier octets) (λ first. length first.1 < length octets)
first_shortens octets = IfSome_then (first_identifier octets) (first_stands octets) (λ first stands.
    let some : 0 < length first.0.octets = stands.some in
    omega (arith, ap length stands.joined, length-append first.0.octets first.1))

-- the first identifier and the others; or octets that are cut
abbrev with_first : (List ℕ → List (List ℕ)) → List ℕ → Option (Identifier × List ℕ) → List (List ℕ)
with_first others octets first = option_map_or (λ first. identifier_text first.0.octets ∷ others first.1) first (cut_text octets ∷ [])

same_with_first : (these those : List ℕ → List (List ℕ)) (octets : List ℕ) (bound : ℕ) (o : Option (Identifier × List ℕ)) → IfSome o (λ first. length first.1 ≤ bound) → ((rest : List ℕ) → length rest ≤ bound → these rest ≡ those rest) → with_first these octets o ≡ with_first those octets o
same_with_first these those octets bound None short same = refl
same_with_first these those octets bound (Some first) short same = ap (λ others. identifier_text first.0.octets ∷ others) (same first.1 short)

-- every bound on the length gives the same identifiers
within_any : (m n : ℕ) (octets : List ℕ) → length octets ≤ m → length octets ≤ n → identifiers_within m octets ≡ identifiers_within n octets
within_any zero zero octets p q = refl
within_any (suc m) zero [] p q = refl
within_any zero (suc n) [] p q = refl
within_any (suc m) (suc n) [] p q = refl
within_any (suc m) zero (head ∷ rest) p q = absurd (omega arith)
within_any zero (suc n) (head ∷ rest) p q = absurd (omega arith)
within_any (suc m) (suc n) (head ∷ rest) p q =
    same_with_first (identifiers_within m) (identifiers_within n) (head ∷ rest) (length rest) (first_identifier (head ∷ rest))
    (IfSome_then (first_identifier (head ∷ rest)) (first_shortens (head ∷ rest)) (λ first short. omega arith))
    (λ octets short. within_any m n octets (omega arith) (omega arith))

-- the identifiers, by the first one
pub identifiers_step : (octets : List ℕ) → 0 < length octets → identifiers_of octets ≡ with_first identifiers_of octets (first_identifier octets)
unfolding identifiers_of
identifiers_step [] some = absurd (omega arith)
identifiers_step (head ∷ rest) some =
    same_with_first (identifiers_within (length rest)) identifiers_of (head ∷ rest) (length rest) (first_identifier (head ∷ rest))
    (IfSome_then (first_identifier (head ∷ rest)) (first_shortens (head ∷ rest)) (λ first short. omega arith))
    (λ octets short. within_any (length rest) (length octets) octets short (omega arith))

-- no octets have no identifiers
pub no_identifiers : (octets : List ℕ) → length octets ≡ 0 → identifiers_of octets ≡ []
unfolding identifiers_of
no_identifiers [] none = refl
no_identifiers (head ∷ rest) none = absurd (omega arith)

-- the first one has the octets that aren't after it
own_octets : (octets : List ℕ) (first : Identifier × List ℕ) → Stands octets first → take (length octets - length first.1) octets ≡ first.0.octets
own_octets octets first stands =
    ap (λ all. take (length all - length first.1) all) stands.joined
    ∙ take_at first.0.octets first.1 (length (first.0.octets ++ first.1) - length first.1) (omega (arith, length-append first.0.octets first.1))

-- what stands before the octets after the first one are its octets
front_from : (octets behind : List ℕ) (o : Option (Identifier × List ℕ)) → IfSome o (Stands octets) → Some behind ≡ option_map (λ first. first.1) o → Some (take (length octets - length behind) octets, behind) ≡ option_map octets_and_rest o
front_from octets behind None stands found = cc
front_from octets behind (Some first) stands found =
    let same : behind ≡ first.1 = same_Some behind first.1 found in
    rw same (ap (λ own. Some (own, first.1)) (own_octets octets first stands))

pub front_is_first : (octets behind : List ℕ) → Some behind ≡ option_map (λ first. first.1) (first_identifier octets) → Some (take (length octets - length behind) octets, behind) ≡ option_map octets_and_rest (first_identifier octets)
front_is_first octets behind found = front_from octets behind (first_identifier octets) (first_stands octets) found

none_from : (o : Option (Identifier × List ℕ)) → None ≡ option_map (λ first. first.1) o → None ≡ option_map octets_and_rest o
none_from None found = refl
none_from (Some first) found = cc

pub none_is_first : (octets : List ℕ) → None ≡ option_map (λ first. first.1) (first_identifier octets) → None ≡ option_map octets_and_rest (first_identifier octets)
none_is_first octets found = none_from (first_identifier octets) found

more_from : (octets own behind : List ℕ) (o : Option (Identifier × List ℕ)) → 0 < length octets → first_identifier octets ≡ o → Some (own, behind) ≡ option_map octets_and_rest o → identifiers_of octets ≡ identifier_text own ∷ identifiers_of behind
more_from octets own behind None some e found = cc
more_from octets own behind (Some first) some e found =
    let same : (own, behind) ≡ octets_and_rest first = same_Some (own, behind) (octets_and_rest first) found in
    identifiers_step octets some ∙ ap (with_first identifiers_of octets) e
    ∙ sym (ap (λ (found : List ℕ × List ℕ). identifier_text found.0 ∷ identifiers_of found.1) same)

-- the first one, and those of the octets after it
pub identifiers_more : (octets own behind : List ℕ) → 0 < length octets → Some (own, behind) ≡ option_map octets_and_rest (first_identifier octets) → identifiers_of octets ≡ identifier_text own ∷ identifiers_of behind
identifiers_more octets own behind some found = more_from octets own behind (first_identifier octets) some refl found

cut_from : (octets : List ℕ) (o : Option (Identifier × List ℕ)) → 0 < length octets → first_identifier octets ≡ o → None ≡ option_map octets_and_rest o → identifiers_of octets ≡ cut_text octets ∷ []
cut_from octets None some e found = identifiers_step octets some ∙ ap (with_first identifiers_of octets) e
cut_from octets (Some first) some e found = cc

-- the first one is cut
pub identifiers_cut : (octets : List ℕ) → 0 < length octets → None ≡ option_map octets_and_rest (first_identifier octets) → identifiers_of octets ≡ cut_text octets ∷ []
identifiers_cut octets some found = cut_from octets (first_identifier octets) some refl found

-- ---- texts with separators before them

more_behind : (texts : List (List ℕ)) → each_behind (codes "; ") texts ≡ flat_map (λ text. codes "; " ++ text) texts
more_behind [] = refl
more_behind (text ∷ texts) = ap (λ more. codes "; " ++ text ++ more) (more_behind texts)

pub each_is_joined : (texts : List (List ℕ)) → each_behind [] texts ≡ join_by (λ text. text) (codes "; ") texts
each_is_joined [] = refl
each_is_joined (text ∷ texts) = ap (λ more. text ++ more) (more_behind texts)

pub behind_is_joined : (octets : List ℕ) → each_behind [] (identifiers_of octets) ≡ configuration_text octets
unfolding configuration_text
behind_is_joined octets = each_is_joined (identifiers_of octets)

-- ---- what follows a special identifier; a pattern matches the octets after it by their number

cond_behind : (b : Bool) (first : Identifier × List ℕ) → option_map (λ found. found.1) (if b then None else Some first) ≡ (if b then None else Some first.1)
cond_behind true first = refl
cond_behind false first = refl

made_behind : (made : List ℕ → Identifier) (count : ℕ) (rest : List ℕ) → option_map (λ first. first.1) (with_maker made count rest) ≡ rest_behind count rest
made_behind made count rest = cond_behind (nat_lt (length rest) count) (made (take count rest), drop count rest)

pub empty_behind : (head : ℕ) (rest : List ℕ) → option_map (λ first. first.1) (empty_at head rest) ≡ rest_behind (maker_count head) rest
empty_behind head rest = made_behind (λ m. identifier (head ∷ m) 0 0) (maker_count head) rest

pub inputs_behind : (head : ℕ) (rest : List ℕ) → 1 ≤ length rest → option_map (λ first. first.1) (inputs_at head rest) ≡ rest_behind (maker_count head) (take (length rest - 1) (drop 1 rest))
inputs_behind head [] some = absurd (omega arith)
inputs_behind head (inputs ∷ rest) some =
    made_behind (λ m. identifier (head ∷ inputs ∷ m) (announced_octets inputs) 0) (maker_count head) rest
    ∙ ap (rest_behind (maker_count head)) (sym (take_all (length (inputs ∷ rest) - 1) rest (omega arith)))

pub outputs_behind : (head : ℕ) (rest : List ℕ) → 1 ≤ length rest → option_map (λ first. first.1) (outputs_at head rest) ≡ rest_behind (maker_count head) (take (length rest - 1) (drop 1 rest))
outputs_behind head [] some = absurd (omega arith)
outputs_behind head (outputs ∷ rest) some =
    made_behind (λ m. identifier (head ∷ outputs ∷ m) 0 (announced_octets outputs)) (maker_count head) rest
    ∙ ap (rest_behind (maker_count head)) (sym (take_all (length (outputs ∷ rest) - 1) rest (omega arith)))

pub both_behind : (head : ℕ) (rest : List ℕ) → 2 ≤ length rest → option_map (λ first. first.1) (both_at head rest) ≡ rest_behind (maker_count head) (take (length rest - 2) (drop 2 rest))
both_behind head [] some = absurd (omega arith)
both_behind head (outputs ∷ []) some = absurd (omega arith)
both_behind head (outputs ∷ inputs ∷ rest) some =
    made_behind (λ m. identifier (head ∷ outputs ∷ inputs ∷ m) (announced_octets inputs) (announced_octets outputs)) (maker_count head) rest
    ∙ ap (rest_behind (maker_count head)) (sym (take_all (length (outputs ∷ inputs ∷ rest) - 2) rest (omega arith)))
