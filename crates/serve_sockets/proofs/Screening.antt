-- No octet is lost between the first octets and those behind them.
use Rattle.std.proofs.Common.{◌≡◌, ℕ, ◌+◌, ◌-◌, ◌≤◌, ◌<◌, List, [], ◌++◌, length, take, drop, min, Option, Some, None, sym, ap, ◌∙◌, arith, append_assoc}
use Rattle.std.proofs.lemmas.List.{drop-drop, take-append-drop}
use Rattle.std.proofs.lemmas.Grind.{common_steps}
use Rattle.std.proofs.Math.ListN.{drop_of_length-le}
use Rattle.std.specs.Io.KnownBytes.{Consumes, IsAtEnd, Keeps}
use Rattle.serve_sockets.specs.Screening.{still_to_come}

-- what was to come is what is passed on, and what is still to come
passed_on : (first buf rest : List ℕ) (given n : ℕ) → take n buf ≡ take n (drop given first)
    → drop given first ++ rest ≡ take n buf ++ (drop (given + n) first ++ rest)
passed_on first buf rest given n same =
    ap (λ (l : List ℕ). l ++ rest) (sym (take-append-drop n (drop given first)))
    ∙ append_assoc (take n (drop given first)) (drop n (drop given first)) rest
    ∙ ap (λ (l : List ℕ). l ++ (drop n (drop given first) ++ rest)) (sym same)
    ∙ ap (λ (l : List ℕ). take n buf ++ (l ++ rest)) (drop-drop n given first)

at_end : (first rest : List ℕ) (given n : ℕ) → given ≤ length first → length first - given ≡ 0 → n ≡ 0 → (given ≡ length first → rest ≡ []) → drop (given + n) first ++ rest ≡ []
at_end first rest given n within none nothing ends =
    ap (λ (l : List ℕ). l ++ rest) (drop_of_length-le first (omega (arith, within, none, nothing))) ∙ ends (omega (arith, within, none))

none_waits : (waiting room n : ℕ) → n ≡ min waiting room → n ≡ 0 → 0 < room → waiting ≡ 0
none_waits waiting room n is nothing some = grind (arith, common_steps, is, nothing, some)

pub reads_first : (old : Option (List ℕ)) (first buf : List ℕ) (given n : ℕ) (behind : Option (List ℕ)) → Keeps old (still_to_come first given behind)
    → n ≡ min (length first - given) (length buf) → take n buf ≡ take n (drop given first) → given ≤ length first → (given ≡ length first → IsAtEnd behind)
    → Consumes old (still_to_come first (given + n) behind) (take n buf) × (n ≡ 0 → 0 < length buf → IsAtEnd (still_to_come first (given + n) behind))
reads_first None first buf given n None kept is same within ends = (tt, λ nothing some. tt)
reads_first None first buf given n (Some rest) kept is same within ends = (tt, λ nothing some. at_end first rest given n within (none_waits (length first - given) (length buf) n is nothing some) nothing ends)
reads_first (Some xs) first buf given n None kept is same within ends = absurd kept
reads_first (Some xs) first buf given n (Some rest) kept is same within ends =
    (sym kept ∙ passed_on first buf rest given n same, λ nothing some. at_end first rest given n within (none_waits (length first - given) (length buf) n is nothing some) nothing ends)
