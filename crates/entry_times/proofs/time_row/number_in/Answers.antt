use Rattle.std.proofs.Common.{◌≡◌, ℕ, ◌<◌, ◌≤◌, List, [], ◌∷◌, Option, length, get_or, sym, subst, arith}
use Rattle.std.specs.Fmt.{decimal}
use Rattle.entry_times.specs.TimeRows.{IsNumber, IsReadFrom}
use Rattle.entry_times.proofs.Numbers.{not_read, read}
use Rattle.entry_times.proofs.time_row.number_in.Goals as goal

pub returns-then-first-le48 : goal.returns-then-first-le48
returns-then-first-le48 c =
    let low : get_or c.as_bytes.result.now 0 0 ≤ 48 = c.if-first-le48.true in
    not_read c.args.digits.now (subst (λ (bs : List ℕ). get_or bs 0 0 ≤ 48) c.as_bytes.ensures.value low)

pub returns-in-empty : goal.returns-in-empty
returns-in-empty c =
    not_read c.args.digits.now (subst (λ (bs : List ℕ). get_or bs 0 0 ≤ 48) c.as_bytes.ensures.value (empty c.as_bytes.result.now c.in-empty.len_below))
  where
    empty : (bs : List ℕ) → length bs < 1 → get_or bs 0 0 ≤ 48
    empty [] short = omega arith
    empty (b ∷ bs) short = absurd (omega (arith, short))

pub returns-else-first-le48 : goal.returns-else-first-le48
returns-else-first-le48 c =
    let high : 48 < get_or c.as_bytes.result.now 0 0 = omega (arith, c.if-first-le48.false) in
    subst (λ (r : Option ℕ). IsReadFrom decimal (IsNumber 64) c.args.digits.now r) (sym c.ok.ensures.value)
    (read c.args.digits.now c.parse.result (subst (λ (bs : List ℕ). 48 < get_or bs 0 0) c.as_bytes.ensures.value high) (search c.parse.ensures.value))
