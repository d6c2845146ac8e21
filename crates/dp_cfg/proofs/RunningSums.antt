-- The running sums of the loop over the identifiers.
use Rattle.std.proofs.Common.{◌≡◌, ℕ, ◌+◌, List, ◌∷◌, Option, Some, None, refl, ap, sym, ◌∙◌, add_assoc, arith}
use Rattle.std.specs.Option.{option_map}
use Rattle.std.proofs.lemmas.List.Sums.{sum_by-cons}
use Rattle.std.proofs.lemmas.Option.{same_Some}
use Rattle.dp_cfg.specs.Identifiers.{Identifier, input_sum, output_sum}
use Rattle.dp_cfg.specs.Reading.{first_identifier, split_of}
use Rattle.dp_cfg.specs.PrivateWords.{sums_of, lengths_and_rest}
use Rattle.dp_cfg.proofs.Splits.{split_step, split_stops}

-- the sums of the identifiers, added to those so far
abbrev pub added : ℕ → ℕ → List Identifier → ℕ × ℕ
added inputs outputs ids = (inputs + input_sum ids, outputs + output_sum ids)

added_first : (inputs outputs : ℕ) (first : Identifier) (o : Option (List Identifier)) → option_map (added (inputs + first.inputs) (outputs + first.outputs)) o ≡ option_map (added inputs outputs) (option_map (λ others. first ∷ others) o)
added_first inputs outputs first None = refl
added_first inputs outputs first (Some others) =
    let a : (inputs + first.inputs) + input_sum others ≡ inputs + input_sum (first ∷ others) = add_assoc inputs first.inputs (input_sum others) ∙ ap (λ n. inputs + n) (sym (sum_by-cons (λ i. i.inputs) first others)) in
    let b : (outputs + first.outputs) + output_sum others ≡ outputs + output_sum (first ∷ others) = add_assoc outputs first.outputs (output_sum others) ∙ ap (λ n. outputs + n) (sym (sum_by-cons (λ i. i.outputs) first others)) in
    cc

-- one more identifier
added_read : (inputs outputs : ℕ) (a b : ℕ) (octets rest : List ℕ) (o : Option (Identifier × List ℕ)) → first_identifier octets ≡ o → Some (a, b, rest) ≡ option_map lengths_and_rest o → option_map (added (inputs + a) (outputs + b)) (split_of rest) ≡ option_map (added inputs outputs) (split_of octets)
added_read inputs outputs a b octets rest None is e = cc
added_read inputs outputs a b octets rest (Some first) is e =
    let t : (a, b, rest) ≡ lengths_and_rest first = same_Some (a, b, rest) (lengths_and_rest first) e in
    let p : a ≡ first.0.inputs = ap (λ (x : ℕ × ℕ × List ℕ). x.0) t in
    let q : b ≡ first.0.outputs = ap (λ (x : ℕ × ℕ × List ℕ). x.1) t in
    let r : rest ≡ first.1 = ap (λ (x : ℕ × ℕ × List ℕ). x.2) t in
    rw (p, q, r) (added_first inputs outputs first.0 (split_of first.1) ∙ ap (option_map (added inputs outputs)) (sym (split_step octets first is)))

pub added_more : (inputs outputs : ℕ) (a b : ℕ) (octets rest : List ℕ) → Some (a, b, rest) ≡ option_map lengths_and_rest (first_identifier octets) → option_map (added (inputs + a) (outputs + b)) (split_of rest) ≡ option_map (added inputs outputs) (split_of octets)
added_more inputs outputs a b octets rest e = added_read inputs outputs a b octets rest (first_identifier octets) refl e

-- there are no sums if an identifier is cut
no_first : (o : Option (Identifier × List ℕ)) → None ≡ option_map lengths_and_rest o → o ≡ None
no_first None e = refl
no_first (Some first) e = cc

pub added_cut : (inputs outputs : ℕ) (head : ℕ) (rest : List ℕ) → None ≡ option_map lengths_and_rest (first_identifier (head ∷ rest)) → option_map (added inputs outputs) (split_of (head ∷ rest)) ≡ None
added_cut inputs outputs head rest e = ap (option_map (added inputs outputs)) (split_stops head rest (no_first _ e))

-- before the first
pub added_none : (o : Option (List Identifier)) → option_map (added 0 0) o ≡ option_map sums_of o
added_none None = refl
added_none (Some ids) =
    let a : 0 + input_sum ids ≡ input_sum ids = omega arith in
    let b : 0 + output_sum ids ≡ output_sum ids = omega arith in
    cc
