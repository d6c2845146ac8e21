-- Octets cut, or filled with zeros, to a length; and configurations that can be parsed.
use Rattle.std.proofs.Common.{◌≡◌, ℕ, zero, suc, ◌-◌, ◌<◌, ◌≤◌, true, List, [], ◌∷◌, ◌++◌, length, get_or, map, take, ap, ◌∙◌, length-append, arith}
use Rattle.std.specs.Prelude.{replicate}
use Rattle.std.specs.List.{list_all}
use Rattle.std.proofs.lemmas.Bool.{and_parts}
use Rattle.std.proofs.lemmas.List.{length-replicate, length-take, take-replicate}
use Rattle.dp_slave.specs.SlaveRecord.{can_be_parsed, cut_or_filled}

pub cut_long : (count : ℕ) (octets : List ℕ) → length (cut_or_filled count octets) ≡ count
cut_long count octets =
    length-append (take count octets) (replicate (count - length octets) 0) ∙ omega (arith, length-take count octets, length-replicate {A = ℕ} (count - length octets) 0)

-- the rest is filled from 244 zeros that exist already
pub filled : (count : ℕ) (octets : List ℕ) → count ≤ 244
    → take count octets ++ take (count - length (take count octets)) (replicate 244 0) ≡ cut_or_filled count octets
filled count octets few =
    let missing : count - length (take count octets) ≡ count - length octets = omega (arith, length-take count octets) in
    ap (λ n. take count octets ++ take n (replicate 244 0)) missing
    ∙ ap (λ xs. take count octets ++ xs) (take-replicate (count - length octets) 244 0 (omega arith))

-- what is true of all is true of each
pub parsed_at : {A : Type 0} (f : A → List ℕ) (xs : List A) (i : ℕ) (d : A) → list_all can_be_parsed (map f xs) ≡ true → i < length xs → can_be_parsed (f (get_or xs i d)) ≡ true
parsed_at f [] i d all below = absurd (omega arith)
parsed_at f (x ∷ xs) zero d all below = (and_parts (can_be_parsed (f x)) (list_all can_be_parsed (map f xs)) all).0
parsed_at f (x ∷ xs) (suc i) d all below = parsed_at f xs i d (and_parts (can_be_parsed (f x)) (list_all can_be_parsed (map f xs)) all).1 (omega arith)
