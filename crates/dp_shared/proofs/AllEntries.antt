-- All entries belong to the passes, if there are as many passes as were opened.
use Rattle.std.proofs.Common.{◌≡◌, ◌≢◌, ◌⊎◌, inl, inr, ℕ, zero, suc, ◌+◌, ◌<◌, ◌≤◌, Bool, true, false, cond, List, [], ◌∷◌, map, length, sym, refl, ap, ◌∙◌, arith, eq-eqb, ne_eqb}
use Rattle.std.specs.Prelude.{◌==◌, sum_by}
use Rattle.std.specs.List.{AllByRecursion}
use Rattle.std.proofs.lemmas.Bool.{cases_eq}
use Rattle.std.proofs.lemmas.List.{length-map}
use Rattle.std.proofs.lemmas.List.Sums.{sum_by-cons}
use mathlib.Core.Option.{some}
use lib.ListN.{get_elem?}
use Rattle.dp_audit.specs.declared.entry.Entry.{Entry}
use Rattle.dp_shared.specs.Numbers.{AllDiffer, times, under}
use Rattle.dp_shared.specs.Content.{Content, IsHistory}
use Rattle.dp_shared.specs.LineLock.{IsNumbered, IsPassOf, receipt_for}
use Rattle.dp_shared.specs.declared.line_view.PassView.{PassView}

-- ---- one more number

zero_more : (m : ℕ) → 0 + m ≡ m
zero_more m = omega arith

times_same : (n k : ℕ) (ks : List ℕ) → k ≡ n → times n (k ∷ ks) ≡ 1 + times n ks
times_same n k ks is = ap (λ b. cond b 1 0 + times n ks) (eq-eqb k n is)

times_other : (n k : ℕ) (ks : List ℕ) → k ≢ n → times n (k ∷ ks) ≡ times n ks
times_other n k ks not = ap (λ b. cond b 1 0 + times n ks) (ne_eqb k n not) ∙ zero_more (times n ks)

-- ---- numbers from 1 to a last one, each at most once

-- how many of the numbers are from 1 to the last one
abbrev upto : ℕ → List ℕ → ℕ
upto zero numbers = 0
upto (suc last) numbers = times (suc last) numbers + upto last numbers

upto_none : (last : ℕ) → upto last [] ≡ 0
upto_none zero = refl
upto_none (suc last) = zero_more (upto last []) ∙ upto_none last

upto_cons : (last number : ℕ) (numbers : List ℕ) → upto last (number ∷ numbers) ≡ upto last (number ∷ []) + upto last numbers
upto_cons zero number numbers = omega arith
upto_cons (suc last) number numbers = let rest = upto_cons last number numbers in omega arith

upto_far : (last number : ℕ) → last < number → upto last (number ∷ []) ≡ 0
upto_far zero number far = refl
upto_far (suc last) number far =
    let here : times (suc last) (number ∷ []) ≡ 0 = times_other (suc last) number [] (λ is. omega (arith, far, is)) in
    let rest : upto last (number ∷ []) ≡ 0 = upto_far last number (omega (arith, far)) in
    omega (arith, here, rest)

upto_one : (last number : ℕ) → 0 < number → number ≤ last → upto last (number ∷ []) ≡ 1
upto_one zero number above within = absurd (omega (arith, above, within))
upto_one (suc last) number above within = by (λ within'. upto_one last number above within') (cases_eq number (suc last))
  where
    by : (number ≤ last → upto last (number ∷ []) ≡ 1) → (number ≡ suc last) ⊎ (number ≢ suc last) → upto (suc last) (number ∷ []) ≡ 1
    by before (inl is) =
        let here : times (suc last) (number ∷ []) ≡ 1 = times_same (suc last) number [] is in
        let rest : upto last (number ∷ []) ≡ 0 = upto_far last number (omega (arith, is)) in
        omega (arith, here, rest)
    by before (inr not) =
        let here : times (suc last) (number ∷ []) ≡ 0 = times_other (suc last) number [] not in
        let rest : upto last (number ∷ []) ≡ 1 = before (omega (arith, within, not)) in
        omega (arith, here, rest)

abbrev IsWithin : ℕ → ℕ → Type 0
IsWithin last number = (0 < number) × (number ≤ last)

upto_all : (last : ℕ) (numbers : List ℕ) → AllByRecursion (IsWithin last) numbers → upto last numbers ≡ length numbers
upto_all last [] within = upto_none last
upto_all last (number ∷ numbers) within =
    let here = upto_one last number within.0.0 within.0.1 in
    let rest = upto_all last numbers within.1 in
    let both = upto_cons last number numbers in
    omega (arith, here, rest, both)

upto_few : (last : ℕ) (numbers : List ℕ) → AllDiffer numbers → upto last numbers ≤ last
upto_few zero numbers differ = omega arith
upto_few (suc last) numbers differ = let here = differ (suc last) in let rest = upto_few last numbers differ in omega (arith, here, rest)

upto_fewer : (last number : ℕ) (numbers : List ℕ) → AllDiffer numbers → 0 < number → number ≤ last → times number numbers ≡ 0 → upto last numbers < last
upto_fewer zero number numbers differ above within none = absurd (omega (arith, above, within))
upto_fewer (suc last) number numbers differ above within none = by (λ within'. upto_fewer last number numbers differ above within' none) (cases_eq number (suc last))
  where
    by : (number ≤ last → upto last numbers < last) → (number ≡ suc last) ⊎ (number ≢ suc last) → upto (suc last) numbers < suc last
    by before (inl is) =
        let here : times (suc last) numbers ≡ 0 = ap (λ n. times n numbers) (sym is) ∙ none in
        let rest = upto_few last numbers differ in
        omega (arith, here, rest)
    by before (inr not) =
        let here = differ (suc last) in
        let rest = before (omega (arith, within, not)) in
        omega (arith, here, rest)

-- if there are as many numbers as there may be, each number occurs
each_there : (last number : ℕ) (numbers : List ℕ) → AllByRecursion (IsWithin last) numbers → AllDiffer numbers → length numbers ≡ last
    → 0 < number → number ≤ last → times number numbers ≡ 1
each_there last number numbers all differ long above within = by (cases_eq (times number numbers) 0)
  where
    by : (times number numbers ≡ 0) ⊎ (times number numbers ≢ 0) → times number numbers ≡ 1
    by (inl none) =
        let few = upto_fewer last number numbers differ above within none in
        let every = upto_all last numbers all in
        absurd (omega (arith, few, every, long))
    by (inr there) = let most = differ number in omega (arith, there, most)

never_zero : (last : ℕ) (numbers : List ℕ) → AllByRecursion (IsWithin last) numbers → times 0 numbers ≡ 0
never_zero last [] all = refl
never_zero last (number ∷ numbers) all =
    let above = all.0.0 in
    times_other 0 number numbers (λ is. omega (arith, above, is)) ∙ never_zero last numbers all.1

-- ---- of passes

abbrev number_of : PassView → ℕ
number_of pass = pass.number

within_all : (closed : Content) (passes : List PassView) → AllByRecursion (IsPassOf closed) passes → AllByRecursion (IsWithin closed.last) (map number_of passes)
within_all closed [] all = tt
within_all closed (pass ∷ passes) all = ((all.0.above, all.0.given), within_all closed passes all.1)

module _ (closed : Content) (passes : List PassView) (numbered : IsNumbered closed) (all : AllByRecursion (IsPassOf closed) passes)
    (differ : AllDiffer (map number_of passes)) (every : length passes ≡ closed.last) where
  within : AllByRecursion (IsWithin closed.last) (map number_of passes)
  within = within_all closed passes all

  long : length (map number_of passes) ≡ closed.last
  long = length-map passes number_of ∙ every

  number_there : (n : ℕ) → n ≢ 0 → n ≤ closed.last → times n (map number_of passes) ≡ 1
  number_there n above most = each_there closed.last n (map number_of passes) within differ long (omega (arith, above)) most

  pub each_of_pass : (index n : ℕ) → get_elem? closed.numbers index ≡ some n → (n ≡ 0) ⊎ (times n (map number_of passes) ≡ 1)
  each_of_pass index n at = by (cases_eq n 0)
    where
      by : (n ≡ 0) ⊎ (n ≢ 0) → (n ≡ 0) ⊎ (times n (map number_of passes) ≡ 1)
      by (inl none) = inl none
      by (inr above) = inr (number_there n above (numbered index n at).1)

  -- it is counted once: for its pass, or for the halt at the last place
  once_counted : (index n : ℕ) → get_elem? closed.numbers index ≡ some n → times n (map number_of passes) + times 0 (n ∷ []) ≡ 1
  once_counted index n at = by (cases_eq n 0)
    where
      by : (n ≡ 0) ⊎ (n ≢ 0) → times n (map number_of passes) + times 0 (n ∷ []) ≡ 1
      by (inl none) =
          let here : times 0 (n ∷ []) ≡ 1 = times_same 0 n [] none in
          let zero_is : times n (map number_of passes) ≡ 0 = ap (λ k. times k (map number_of passes)) none ∙ never_zero closed.last (map number_of passes) within in
          omega (arith, here, zero_is)
      by (inr above) =
          let here : times 0 (n ∷ []) ≡ 0 = times_other 0 n [] above in
          let one = number_there n above (numbered index n at).1 in
          omega (arith, here, one)

-- ---- the sum

all_at : (P : ℕ → Type 0) (xs : List ℕ) → ((index x : ℕ) → get_elem? xs index ≡ some x → P x) → AllByRecursion P xs
all_at P [] f = tt
all_at P (x ∷ xs) f = (f 0 x refl, all_at P xs (λ index y at. f (suc index) y at))

same_hit : (a b : ℕ) → times b (a ∷ []) ≡ times a (b ∷ [])
same_hit a b = by (cases_eq a b)
  where
    by : (a ≡ b) ⊎ (a ≢ b) → times b (a ∷ []) ≡ times a (b ∷ [])
    by (inl is) = times_same b a [] is ∙ sym (times_same a b [] (sym is))
    by (inr not) = times_other b a [] not ∙ sym (times_other a b [] (λ is. not (sym is)))

none_summed : (passes : List PassView) → sum_by (λ (pass : PassView). times pass.number []) passes ≡ 0
none_summed [] = refl
none_summed (pass ∷ passes) =
    let all = sum_by-cons (λ (p : PassView). times p.number []) pass passes in
    let rest = none_summed passes in
    omega (arith, all, rest)

one_summed : (number : ℕ) (numbers : List ℕ) (passes : List PassView)
    → sum_by (λ (pass : PassView). times pass.number (number ∷ numbers)) passes ≡ times number (map number_of passes) + sum_by (λ (pass : PassView). times pass.number numbers) passes
one_summed number numbers [] = omega arith
one_summed number numbers (pass ∷ passes) =
    let all = sum_by-cons (λ (p : PassView). times p.number (number ∷ numbers)) pass passes in
    let others = sum_by-cons (λ (p : PassView). times p.number numbers) pass passes in
    let rest = one_summed number numbers passes in
    let same = same_hit number pass.number in
    omega (arith, all, others, rest, same)

summed : (numbers : List ℕ) (passes : List PassView) → AllByRecursion (λ n. times n (map number_of passes) + times 0 (n ∷ []) ≡ 1) numbers
    → sum_by (λ (pass : PassView). times pass.number numbers) passes + times 0 numbers ≡ length numbers
summed [] passes all = let none = none_summed passes in omega (arith, none)
summed (number ∷ numbers) passes all =
    let one = one_summed number numbers passes in
    let rest = summed numbers passes all.1 in
    let here = all.0 in
    omega (arith, one, rest, here)

under_times : (n : ℕ) (numbers : List ℕ) (entries : List Entry) → length numbers ≡ length entries → length (under n numbers entries) ≡ times n numbers
under_times n [] entries same = refl
under_times n (number ∷ numbers) [] same = absurd (omega (arith, same))
under_times n (number ∷ numbers) (entry ∷ entries) same = by (number == n) (under_times n numbers entries (omega (arith, same)))
  where
    by : (b : Bool) → length (under n numbers entries) ≡ times n numbers → length (cond b (entry ∷ under n numbers entries) (under n numbers entries)) ≡ cond b 1 0 + times n numbers
    by true rest = omega (arith, rest)
    by false rest = rest ∙ sym (zero_more (times n numbers))

receipts_summed : (closed : Content) (passes : List PassView) → IsHistory closed → AllByRecursion (IsPassOf closed) passes
    → sum_by (λ (pass : PassView). length pass.receipts) passes ≡ sum_by (λ (pass : PassView). times pass.number closed.numbers) passes
receipts_summed closed [] history all = refl
receipts_summed closed (pass ∷ passes) history all =
    let made = sum_by-cons (λ (p : PassView). length p.receipts) pass passes in
    let counted = sum_by-cons (λ (p : PassView). times p.number closed.numbers) pass passes in
    let here : length pass.receipts ≡ times pass.number closed.numbers =
    ap length all.0.fits.receipts ∙ length-map (under pass.number closed.numbers closed.book.entries) receipt_for ∙ under_times pass.number closed.numbers closed.book.entries history.long in
    let rest = receipts_summed closed passes history all.1 in
    omega (arith, made, counted, here, rest)

pub all_counted : (closed : Content) (passes : List PassView) → IsHistory closed → IsNumbered closed → AllByRecursion (IsPassOf closed) passes
    → AllDiffer (map number_of passes) → length passes ≡ closed.last
    → length closed.book.entries ≡ sum_by (λ (pass : PassView). length pass.receipts) passes + times 0 closed.numbers
all_counted closed passes history numbered all differ every =
    let made = receipts_summed closed passes history all in
    let total = summed closed.numbers passes (all_at (λ n. times n (map number_of passes) + times 0 (n ∷ []) ≡ 1) closed.numbers (once_counted closed passes numbered all differ every)) in
    let same = history.long in
    omega (arith, made, total, same)
