-- The octets of each identifier, one after another.
use Rattle.std.proofs.Common.{◌≡◌, ℕ, zero, suc, ◌<◌, ◌≤◌, List, [], ◌∷◌, length, Option, Some, None, refl, ap, sym, ◌∙◌, arith}
use Rattle.std.specs.Prelude.{IfSome, option_and_then}
use Rattle.std.specs.Option.{option_map}
use Rattle.std.proofs.lemmas.Option.{same_Some, IfSome_then}
use Rattle.dp_cfg.specs.Identifiers.{Identifier}
use Rattle.dp_cfg.specs.Reading.{first_identifier, split_of, split_within}
use Rattle.explain_octets.specs.Configurations.{octets_and_rest, octets_of_each, slots_of}
use Rattle.explain_octets.proofs.Splitting.{first_shortens}

-- the first identifier and the others
abbrev with_first : (List ℕ → Option (List Identifier)) → Option (Identifier × List ℕ) → Option (List Identifier)
with_first others first = option_and_then (λ first. option_map (λ more. first.0 ∷ more) (others first.1)) first

same_with_first : (these those : List ℕ → Option (List Identifier)) (bound : ℕ) (o : Option (Identifier × List ℕ)) → IfSome o (λ first. length first.1 ≤ bound) → ((rest : List ℕ) → length rest ≤ bound → these rest ≡ those rest) → with_first these o ≡ with_first those o
same_with_first these those bound None short same = refl
same_with_first these those bound (Some first) short same = ap (λ others. option_map (λ more. first.0 ∷ more) others) (same first.1 short)

-- every bound on the length gives the same identifiers
within_any : (m n : ℕ) (octets : List ℕ) → length octets ≤ m → length octets ≤ n → split_within m octets ≡ split_within n octets
within_any zero zero octets p q = refl
within_any (suc m) zero [] p q = refl
within_any zero (suc n) [] p q = refl
within_any (suc m) (suc n) [] p q = refl
within_any (suc m) zero (head ∷ rest) p q = absurd (omega arith)
within_any zero (suc n) (head ∷ rest) p q = absurd (omega arith)
within_any (suc m) (suc n) (head ∷ rest) p q =
    same_with_first (split_within m) (split_within n) (length rest) (first_identifier (head ∷ rest))
    (IfSome_then (first_identifier (head ∷ rest)) (first_shortens (head ∷ rest)) (λ first short. omega arith))
    (λ octets short. within_any m n octets (omega arith) (omega arith))

-- the identifiers, by the first one
split_step : (octets : List ℕ) → 0 < length octets → split_of octets ≡ with_first split_of (first_identifier octets)
split_step [] some = absurd (omega arith)
split_step (head ∷ rest) some =
    same_with_first (split_within (length rest)) split_of (length rest) (first_identifier (head ∷ rest))
    (IfSome_then (first_identifier (head ∷ rest)) (first_shortens (head ∷ rest)) (λ first short. omega arith))
    (λ octets short. within_any (length rest) (length octets) octets short (omega arith))

some_octets : (octets : List ℕ) (first : Identifier × List ℕ) → first_identifier octets ≡ Some first → 0 < length octets
some_octets [] first e = cc
some_octets (head ∷ rest) first e = omega arith

octets_of_more : (one : Identifier) (o : Option (List Identifier)) → option_map octets_of_each (option_map (λ more. one ∷ more) o) ≡ option_map (λ others. one.octets ∷ others) (option_map octets_of_each o)
octets_of_more one None = refl
octets_of_more one (Some more) = refl

more_from : (octets own behind : List ℕ) (o : Option (Identifier × List ℕ)) → first_identifier octets ≡ o → Some (own, behind) ≡ option_map octets_and_rest o → slots_of octets ≡ option_map (λ others. own ∷ others) (slots_of behind)
more_from octets own behind None e found = cc
more_from octets own behind (Some first) e found =
    let same : (own, behind) ≡ octets_and_rest first = same_Some (own, behind) (octets_and_rest first) found in
    let step = split_step octets (some_octets octets first e) ∙ ap (with_first split_of) e in
    ap (λ split. option_map octets_of_each split) step ∙ octets_of_more first.0 (split_of first.1)
    ∙ sym (ap (λ (found : List ℕ × List ℕ). option_map (λ others. found.0 ∷ others) (slots_of found.1)) same)

-- the octets of the first one, and those of each one after it
pub slots_more : (octets own behind : List ℕ) → Some (own, behind) ≡ option_map octets_and_rest (first_identifier octets) → slots_of octets ≡ option_map (λ others. own ∷ others) (slots_of behind)
slots_more octets own behind found = more_from octets own behind (first_identifier octets) refl found

cut_from : (octets : List ℕ) (o : Option (Identifier × List ℕ)) → 0 < length octets → first_identifier octets ≡ o → None ≡ option_map octets_and_rest o → slots_of octets ≡ None
cut_from octets None some e found = ap (λ split. option_map octets_of_each split) (split_step octets some ∙ ap (with_first split_of) e)
cut_from octets (Some first) some e found = cc

-- the first one is cut
pub slots_cut : (octets : List ℕ) → 0 < length octets → None ≡ option_map octets_and_rest (first_identifier octets) → slots_of octets ≡ None
slots_cut octets some found = cut_from octets (first_identifier octets) some refl found
