-- The relation of `Identifiers` agrees with the reading of `Reading`.
use Rattle.std.proofs.Common.{◌≡◌, ℕ, zero, suc, ◌<◌, ◌≤◌, List, [], ◌∷◌, ◌++◌, length, take, drop, Option, Some, None, refl, ap, sym, ◌∙◌, arith, length-append, append_assoc}
use Rattle.std.specs.Prelude.{IfSome}
use Rattle.std.specs.Option.{option_map, option_and_then}
use Rattle.std.specs.List.{flat_map, AllByRecursion}
use Rattle.std.proofs.lemmas.Bool.{cond_both, cond-false, eqb-true, eqb-false, le-ltb, ltb-false}
use Rattle.std.proofs.lemmas.List.{take_at, drop_at, take-append-drop, length-take-le}
use Rattle.std.proofs.lemmas.Option.{same_Some, MatchOption-at_some, IfSome_then}
use Rattle.dp_cfg.specs.Identifiers.{Identifier, identifier, IsIdentifier, general_inputs, general_outputs, general_both, empty_place, special_inputs, special_outputs, special_both, IsSplit, bits_5_4, bits_7_6, maker_count, announced_octets}
use Rattle.dp_cfg.specs.Reading.{with_maker, first_identifier, special_at, empty_at, inputs_at, outputs_at, both_at, split_within, split_of}

-- an identifier has octets
pub identifier_has_octets : (i : Identifier) → IsIdentifier i → 0 < length i.octets
identifier_has_octets i (general_inputs head k e) = rw e (omega arith)
identifier_has_octets i (general_outputs head k e) = rw e (omega arith)
identifier_has_octets i (general_both head k e) = rw e (omega arith)
identifier_has_octets i (empty_place head maker k e) = rw e (omega arith)
identifier_has_octets i (special_inputs head inputs maker k e) = rw e (omega arith)
identifier_has_octets i (special_outputs head outputs maker k e) = rw e (omega arith)
identifier_has_octets i (special_both head outputs inputs maker k e) = rw e (omega arith)

-- the maker's octets are found at their place
with_maker_found : (made : List ℕ → Identifier) (count : ℕ) (maker rest : List ℕ) → length maker ≡ count → with_maker made count (maker ++ rest) ≡ Some (made maker, rest)
with_maker_found made count maker rest e =
    cond-false _ _ _ (le-ltb (length (maker ++ rest)) count (omega (arith, length-append maker rest)))
    ∙ rw (take_at maker rest count e, drop_at maker rest count e)

-- an identifier is found if it comes first
pub first_found : (i : Identifier) (rest : List ℕ) → IsIdentifier i → first_identifier (i.octets ++ rest) ≡ Some (i, rest)
first_found i rest (general_inputs head k e) = rw (e, k)
first_found i rest (general_outputs head k e) = rw (e, k)
first_found i rest (general_both head k e) = rw (e, k)
first_found i rest (empty_place head maker k e) =
    rw (e, k.0, k.1) (with_maker_found (λ m. identifier (head ∷ m) 0 0) (maker_count head) maker rest k.2)
first_found i rest (special_inputs head inputs maker k e) =
    rw (e, k.0, k.1) (with_maker_found (λ m. identifier (head ∷ inputs ∷ m) (announced_octets inputs) 0) (maker_count head) maker rest k.2)
first_found i rest (special_outputs head outputs maker k e) =
    rw (e, k.0, k.1) (with_maker_found (λ m. identifier (head ∷ outputs ∷ m) 0 (announced_octets outputs)) (maker_count head) maker rest k.2)
first_found i rest (special_both head outputs inputs maker k e) =
    rw (e, k.0, k.1) (with_maker_found (λ m. identifier (head ∷ outputs ∷ inputs ∷ m) (announced_octets inputs) (announced_octets outputs)) (maker_count head) maker rest k.2)

-- the octets are those of an identifier and the rest
pub record Stands (octets : List ℕ) (first : Identifier × List ℕ) : Type 0 where
  pub is : IsIdentifier first.0
  pub joined : octets ≡ first.0.octets ++ first.1

-- what is found with its maker's octets is there
with_maker_stands : (front : List ℕ) (made : List ℕ → Identifier) (count : ℕ) (rest : List ℕ) → ((maker : List ℕ) → length maker ≡ count → IsIdentifier (made maker)) → ((maker : List ℕ) → (made maker).octets ≡ front ++ maker) → IfSome (with_maker made count rest) (Stands (front ++ rest))
with_maker_stands front made count rest is octets =
    cond_both _ _ _ (λ o. IfSome o (Stands (front ++ rest))) (λ _. tt)
    (λ e. let fits : count ≤ length rest = ltb-false _ _ e in record {
      is = is (take count rest) (length-take-le count rest fits);
      joined = ap (λ all. front ++ all) (sym (take-append-drop count rest)) ∙ sym (append_assoc front (take count rest) (drop count rest)) ∙ ap (λ own. own ++ drop count rest) (sym (octets (take count rest)));
    })

empty_stands : (head : ℕ) (rest : List ℕ) → bits_5_4 head ≡ 0 → bits_7_6 head ≡ 0 → IfSome (empty_at head rest) (Stands (head ∷ rest))
empty_stands head rest k l =
    with_maker_stands (head ∷ []) (λ m. identifier (head ∷ m) 0 0) (maker_count head) rest
    (λ maker n. empty_place head maker (k, l, n) refl) (λ _. refl)

inputs_stand : (head : ℕ) (rest : List ℕ) → bits_5_4 head ≡ 0 → bits_7_6 head ≡ 1 → IfSome (inputs_at head rest) (Stands (head ∷ rest))
inputs_stand head [] k l = tt
inputs_stand head (inputs ∷ rest) k l =
    with_maker_stands (head ∷ inputs ∷ []) (λ m. identifier (head ∷ inputs ∷ m) (announced_octets inputs) 0) (maker_count head) rest
    (λ maker n. special_inputs head inputs maker (k, l, n) refl) (λ _. refl)

outputs_stand : (head : ℕ) (rest : List ℕ) → bits_5_4 head ≡ 0 → bits_7_6 head ≡ 2 → IfSome (outputs_at head rest) (Stands (head ∷ rest))
outputs_stand head [] k l = tt
outputs_stand head (outputs ∷ rest) k l =
    with_maker_stands (head ∷ outputs ∷ []) (λ m. identifier (head ∷ outputs ∷ m) 0 (announced_octets outputs)) (maker_count head) rest
    (λ maker n. special_outputs head outputs maker (k, l, n) refl) (λ _. refl)

both_stand : (head : ℕ) (rest : List ℕ) → bits_5_4 head ≡ 0 → bits_7_6 head ≡ 3 → IfSome (both_at head rest) (Stands (head ∷ rest))
both_stand head [] k l = tt
both_stand head (outputs ∷ []) k l = tt
both_stand head (outputs ∷ inputs ∷ rest) k l =
    with_maker_stands (head ∷ outputs ∷ inputs ∷ []) (λ m. identifier (head ∷ outputs ∷ inputs ∷ m) (announced_octets inputs) (announced_octets outputs)) (maker_count head) rest
    (λ maker n. special_both head outputs inputs maker (k, l, n) refl) (λ _. refl)

special_stands : (head : ℕ) (rest : List ℕ) → bits_5_4 head ≡ 0 → IfSome (special_at head rest) (Stands (head ∷ rest))
special_stands head rest k =
    let P : Option (Identifier × List ℕ) → Type 0 = λ o. IfSome o (Stands (head ∷ rest)) in
    cond_both _ _ _ P (λ e. empty_stands head rest k (eqb-true _ _ e))
    (λ not_zero. cond_both _ _ _ P (λ e. inputs_stand head rest k (eqb-true _ _ e))
    (λ not_one. cond_both _ _ _ P (λ e. outputs_stand head rest k (eqb-true _ _ e))
    (λ not_two.
    let a : bits_7_6 head ≡ 0 → ⊥ = eqb-false _ _ not_zero in
    let b : bits_7_6 head ≡ 1 → ⊥ = eqb-false _ _ not_one in
    let c : bits_7_6 head ≡ 2 → ⊥ = eqb-false _ _ not_two in
    both_stand head rest k (omega arith))))

-- what is found first comes first
pub first_stands : (octets : List ℕ) → IfSome (first_identifier octets) (Stands octets)
first_stands [] = tt
first_stands (head ∷ rest) =
    let P : Option (Identifier × List ℕ) → Type 0 = λ o. IfSome o (Stands (head ∷ rest)) in
    cond_both _ _ _ P (λ e. record { is = general_inputs head (eqb-true _ _ e) refl; joined = refl })
    (λ not_one. cond_both _ _ _ P (λ e. record { is = general_outputs head (eqb-true _ _ e) refl; joined = refl })
    (λ not_two. cond_both _ _ _ P (λ e. record { is = general_both head (eqb-true _ _ e) refl; joined = refl })
    (λ not_three.
    let a : bits_5_4 head ≡ 1 → ⊥ = eqb-false _ _ not_one in
    let b : bits_5_4 head ≡ 2 → ⊥ = eqb-false _ _ not_two in
    let c : bits_5_4 head ≡ 3 → ⊥ = eqb-false _ _ not_three in
    special_stands head rest (omega arith))))

-- the octets after an identifier are fewer
pub first_shortens : (octets : List ℕ) → IfSome (first_identifier octets) (λ first. length first.1 < length octets)
first_shortens octets = IfSome_then (first_identifier octets) (first_stands octets) (λ first stands.
    let some : 0 < length first.0.octets = identifier_has_octets first.0 stands.is in
    omega (arith, ap length stands.joined, length-append first.0.octets first.1))

-- the identifiers of the rest, with the first in front
abbrev behind : ℕ → Identifier × List ℕ → Option (List Identifier)
behind most first = option_map (λ others. first.0 ∷ others) (split_within most first.1)

-- every bound on the length gives the same split
behind_same : (m n bound : ℕ) (o : Option (Identifier × List ℕ)) → IfSome o (λ first. length first.1 ≤ bound) → ((octets : List ℕ) → length octets ≤ bound → split_within m octets ≡ split_within n octets) → option_and_then (behind m) o ≡ option_and_then (behind n) o
behind_same m n bound None short same = refl
behind_same m n bound (Some first) short same = ap (option_map (λ others. first.0 ∷ others)) (same first.1 short)

split_within_any : (m n : ℕ) (octets : List ℕ) → length octets ≤ m → length octets ≤ n → split_within m octets ≡ split_within n octets
split_within_any zero zero octets p q = refl
split_within_any (suc m) zero [] p q = refl
split_within_any zero (suc n) [] p q = refl
split_within_any (suc m) (suc n) [] p q = refl
split_within_any (suc m) zero (head ∷ rest) p q = absurd (omega arith)
split_within_any zero (suc n) (head ∷ rest) p q = absurd (omega arith)
split_within_any (suc m) (suc n) (head ∷ rest) p q =
    behind_same m n (length rest) (first_identifier (head ∷ rest))
    (IfSome_then (first_identifier (head ∷ rest)) (first_shortens (head ∷ rest)) (λ first short. omega arith))
    (λ octets short. split_within_any m n octets (omega arith) (omega arith))

-- the split, by the first identifier
pub split_step : (octets : List ℕ) (first : Identifier × List ℕ) → first_identifier octets ≡ Some first → split_of octets ≡ option_map (λ others. first.0 ∷ others) (split_of first.1)
split_step [] first e = cc
split_step (head ∷ rest) first e =
    let short : length first.1 < length (head ∷ rest) = MatchOption-at_some _ (λ f. length f.1 < length (head ∷ rest)) first e (first_shortens (head ∷ rest)) in
    ap (option_and_then (behind (length rest))) e
    ∙ ap (option_map (λ others. first.0 ∷ others)) (split_within_any (length rest) (length first.1) first.1 (omega arith) (omega arith))

-- without a first identifier there is no split
pub split_stops : (head : ℕ) (rest : List ℕ) → first_identifier (head ∷ rest) ≡ None → split_of (head ∷ rest) ≡ None
split_stops head rest e = ap (option_and_then (behind (length rest))) e

-- octets of identifiers one after another split into these identifiers
joined_split : (ids : List Identifier) → AllByRecursion IsIdentifier ids → split_of (flat_map (λ i. i.octets) ids) ≡ Some ids
joined_split [] each = refl
joined_split (i ∷ ids) each =
    let rest : List ℕ = flat_map (λ j. j.octets) ids in
    split_step (i.octets ++ rest) (i, rest) (first_found i rest each.0) ∙ ap (option_map (λ others. i ∷ others)) (joined_split ids each.1)

pub split_found : (octets : List ℕ) (ids : List Identifier) → IsSplit octets ids → split_of octets ≡ Some ids
split_found octets ids split = ap split_of split.joined ∙ joined_split ids split.each

-- what is read is a split
with_first_split : (octets : List ℕ) (first : Identifier × List ℕ) (o : Option (List Identifier)) → Stands octets first → IfSome o (IsSplit first.1) → IfSome (option_map (λ others. first.0 ∷ others) o) (IsSplit octets)
with_first_split octets first None stands split = tt
with_first_split octets first (Some others) stands split = record {
  joined = stands.joined ∙ ap (λ rest. first.0.octets ++ rest) split.joined;
  each = (stands.is, split.each);
}

behind_split : (octets : List ℕ) (most : ℕ) (o : Option (Identifier × List ℕ)) → IfSome o (Stands octets) → ((rest : List ℕ) → IfSome (split_within most rest) (IsSplit rest)) → IfSome (option_and_then (behind most) o) (IsSplit octets)
behind_split octets most None stands split = tt
behind_split octets most (Some first) stands split = with_first_split octets first (split_within most first.1) stands (split first.1)

split_within_is : (most : ℕ) (octets : List ℕ) → IfSome (split_within most octets) (IsSplit octets)
split_within_is zero [] = record { joined = refl; each = tt }
split_within_is (suc most) [] = record { joined = refl; each = tt }
split_within_is zero (head ∷ rest) = tt
split_within_is (suc most) (head ∷ rest) =
    behind_split (head ∷ rest) most (first_identifier (head ∷ rest)) (first_stands (head ∷ rest)) (split_within_is most)

pub split_is : (octets : List ℕ) (ids : List Identifier) → split_of octets ≡ Some ids → IsSplit octets ids
split_is octets ids e = MatchOption-at_some _ (IsSplit octets) ids e (split_within_is (length octets) octets)

-- and there is no other split
pub split_unique : (octets : List ℕ) (these those : List Identifier) → IsSplit octets these → IsSplit octets those → these ≡ those
split_unique octets these those a b = same_Some these those (sym (split_found octets these a) ∙ split_found octets those b)
