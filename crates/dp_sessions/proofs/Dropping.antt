-- The first octets of those that a session drops.
use Rattle.std.proofs.Common.{◌≡◌, ℕ, ◌-◌, List, ◌++◌, length, take, min, ap, ◌∙◌}
use Rattle.std.proofs.lemmas.List.{take_min}

-- as many octets as there are and as there is room for
pub as_many : (first octets : List ℕ) (room : ℕ) → room ≡ min (16 - length first) (length octets) → first ++ take room octets ≡ first ++ take (16 - length first) octets
as_many first octets room is = ap (λ (n : ℕ). first ++ take n octets) is ∙ ap (λ (l : List ℕ). first ++ l) (take_min (16 - length first) octets)
