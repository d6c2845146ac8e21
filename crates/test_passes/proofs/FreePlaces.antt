-- The journal of a closed line whose last place is free.
use Rattle.std.proofs.Common.{◌≡◌, ◌≢◌, ◌⊎◌, inl, inr, ℕ, zero, suc, ◌+◌, ◌<◌, cond, List, [], ◌∷◌, ◌++◌, map, length, ap, sym, subst, refl, arith, ne_eqb}
use Rattle.std.specs.Prelude.{◌==◌, sum_by}
use Rattle.std.specs.List.{AllByRecursion}
use Rattle.std.proofs.lemmas.Bool.{cases_eq}
use mathlib.Core.Option.{some}
use lib.ListN.{get_elem?}
use Rattle.dp_shared.specs.Content.{Content, IsHistory}
use Rattle.dp_shared.specs.LineLock.{IsNumbered, IsPassOf}
use Rattle.dp_shared.specs.Numbers.{AllDiffer, times}
use Rattle.dp_shared.specs.Passes.{with_look}
use Rattle.dp_shared.specs.declared.line_view.Look.{Look}
use Rattle.dp_shared.specs.declared.line_view.PassView.{PassView}

inside : (xs : List ℕ) (i x : ℕ) → get_elem? xs i ≡ some x → i < length xs
inside [] i x at = absurd cc
inside (y ∷ ys) zero x at = omega arith
inside (y ∷ ys) (suc i) x at = let rest = inside ys i x at in omega (arith, rest)

-- a number that is at no place
never : (n : ℕ) (numbers : List ℕ) → ((index : ℕ) → get_elem? numbers index ≡ some n → ⊥) → times n numbers ≡ 0
never n [] none = refl
never n (number ∷ numbers) none = by (never n numbers (λ index at. none (suc index) at)) (cases_eq number n)
  where
    by : times n numbers ≡ 0 → (number ≡ n) ⊎ (number ≢ n) → times n (number ∷ numbers) ≡ 0
    by rest (inl is) = absurd (none 0 (ap some is))
    by rest (inr not) =
        let skipped : cond (number == n) 1 0 + times n numbers ≡ 0 + times n numbers = ap (λ b. cond b 1 0 + times n numbers) (ne_eqb number n not) in
        omega (arith, skipped, rest)

-- no entry is the halt at the last place
pub none_halted : (closed : Content) → IsHistory closed → IsNumbered closed → length closed.book.entries < closed.book.opening.capacity → times 0 closed.numbers ≡ 0
none_halted closed history numbered free = never 0 closed.numbers (λ index at.
    let last = (numbered index 0 at).0.0 refl in
    let within = inside closed.numbers index 0 at in
    let long = history.long in
    omega (arith, last, within, long, free))

-- what holds for all looks of a pass holds for the last one
of_last : {A : Type 0} (P : A → Type 0) (xs : List A) (x : A) → AllByRecursion P (xs ++ x ∷ []) → P x
of_last P [] x all = all.0
of_last P (y ∷ ys) x all = of_last P ys x all.1

pub of_look : (P : Look → Type 0) (pass after : PassView) (look : Look) → after ≡ with_look pass look → AllByRecursion P after.looks → P look
of_look P pass after look is all = of_last P pass.looks look (subst (λ (view : PassView). AllByRecursion P view.looks) is all)

-- the law `the_passes_have_all_entries` for this journal
abbrev pub Counts : Content → Type 0
Counts closed =
    (passes : List PassView) → IsHistory closed → IsNumbered closed → AllByRecursion (IsPassOf closed) passes → AllDiffer (map (λ pass. pass.number) passes)
    → length passes ≡ closed.last → length closed.book.entries ≡ sum_by (λ pass. length pass.receipts) passes + times 0 closed.numbers

-- only two passes were opened, and the last place is free
pub two_have_all : (closed : Content) (pass other : PassView) → Counts closed → IsHistory closed → IsNumbered closed → IsPassOf closed pass → IsPassOf closed other
    → AllDiffer (pass.number ∷ other.number ∷ []) → closed.last ≡ 2 → length closed.book.entries < closed.book.opening.capacity
    → length closed.book.entries ≡ length pass.receipts + length other.receipts
two_have_all closed pass other law history numbered fits others differ two free =
    let all = law (pass ∷ other ∷ []) history numbered (fits, (others, tt)) differ (sym two) in
    let none = none_halted closed history numbered free in
    omega (arith, all, none)
