-- The counts of an address are changed.
use Rattle.std.proofs.Common.{◌≡◌, ℕ, zero, suc, ◌+◌, ◌<◌, ◌≤◌, List, [], ◌∷◌, ◌++◌, length, get_or, map, refl, ap, sym, ◌∙◌, arith}
use Rattle.std.proofs.Math.ListN.{set}
use Rattle.std.specs.List.{range_with_len}
use Rattle.std.proofs.lemmas.List.FromFn.{map-range_with_len_more}
use Rattle.explain_texts.specs.declared.statistics.AddressCounts.{AddressCounts}
use Rattle.explain_texts.specs.declared.statistics.Count.{Count}
use Rattle.explain_texts.specs.StationCounts.{counted_at, first_counts, with_count}

pub counted_within : (statistics : List AddressCounts) (index : ℕ) (count : Count) (default changed : AddressCounts) → index < length statistics → changed ≡ with_count count (get_or statistics index default)
    → set statistics index changed ≡ counted_at index count statistics
counted_within [] index count default changed within is = absurd (omega arith)
counted_within (address ∷ others) zero count default changed within is = ap (λ (a : AddressCounts). a ∷ others) is
counted_within (address ∷ others) (suc index) count default changed within is =
    ap (λ (l : List AddressCounts). address ∷ l) (counted_within others index count default changed (omega arith) is)

-- an index that no address has changes nothing
pub counted_outside : (statistics : List AddressCounts) (index : ℕ) (count : Count) → length statistics ≤ index → statistics ≡ counted_at index count statistics
counted_outside [] index count past = refl
counted_outside (address ∷ others) zero count past = absurd (omega arith)
counted_outside (address ∷ others) (suc index) count past = ap (λ (l : List AddressCounts). address ∷ l) (counted_outside others index count (omega arith))

-- the counts of one more address, before the first event
pub one_more_address : (statistics more : List AddressCounts) (address : ℕ) (last : AddressCounts) → statistics ≡ map first_counts (range_with_len 0 address) → last ≡ first_counts address
    → more ≡ statistics ++ last ∷ [] → more ≡ map first_counts (range_with_len 0 (address + 1))
one_more_address statistics more address last done new pushed =
    pushed
    ∙ ap (λ (l : List AddressCounts). l ++ last ∷ []) done
    ∙ ap (λ (a : AddressCounts). map first_counts (range_with_len 0 address) ++ a ∷ []) new
    ∙ sym (map-range_with_len_more first_counts 0 address address (omega arith))
