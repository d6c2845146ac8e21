-- The slaves that devices drive, address by address.
use Rattle.std.proofs.Common.{◌≡◌, ℕ, zero, suc, ◌+◌, List, [], ◌∷◌, ◌++◌, ap, ◌∙◌, arith}
use Rattle.std.specs.List.{filter_map, range_with_len}
use Rattle.std.proofs.lemmas.List.Elements.{filter_map-append}
use Rattle.dp_slave.specs.declared.description.SlaveSpec.{SlaveSpec}
use Rattle.rack_devices.specs.DrivenSlaves.{driven_at}

-- one more address in the range
range-push : (a n : ℕ) → range_with_len a (suc n) ≡ range_with_len a n ++ (a + n) ∷ []
range-push a zero = let same : a ≡ a + 0 = omega arith in ap (λ k. k ∷ []) same
range-push a (suc n) =
    let same : a + 1 + n ≡ a + suc n = omega arith in
    ap (λ (l : List ℕ). a ∷ l) (range-push (a + 1) n ∙ ap (λ k. range_with_len (a + 1) n ++ k ∷ []) same)

-- the slaves below one more address
pub driven_more : (slaves : List SlaveSpec) (n : ℕ)
    → filter_map (driven_at slaves) (range_with_len 0 (n + 1)) ≡ filter_map (driven_at slaves) (range_with_len 0 n) ++ filter_map (driven_at slaves) (n ∷ [])
driven_more slaves n =
    let more : n + 1 ≡ suc n = omega arith in
    let same : 0 + n ≡ n = omega arith in
    ap (λ k. filter_map (driven_at slaves) (range_with_len 0 k)) more
    ∙ ap (filter_map (driven_at slaves)) (range-push 0 n ∙ ap (λ k. range_with_len 0 n ++ k ∷ []) same)
    ∙ filter_map-append (driven_at slaves) (range_with_len 0 n) (n ∷ [])
