-- The lists together have at most as many records as there are.
use Rattle.std.specs.Prelude.{◌||◌, ◌⊎◌}
use Rattle.std.proofs.Common.{◌≡◌, ◌≢◌, ℕ, zero, suc, ◌+◌, ◌<◌, ◌≤◌, Bool, true, false, eqb, List, [], ◌∷◌, ◌++◌, length, Option, None, refl, sym, ap, subst, arith, length-append, inl, inr}
use Rattle.std.specs.List.{AllByRecursion, list_any, IsDistinct as AreDistinct}
use Rattle.std.proofs.lemmas.Bool.{eqb-true, eqb-false, ne_eqb}
use Rattle.std.proofs.lemmas.Map.Steps.{length-le_from_distinct_below}
use Rattle.dp_owners.specs.declared.owners.TheConstants.{MOST_MASTERS}
use Rattle.dp_owners.specs.declared.links.Links.{Links}
use Rattle.dp_owners.specs.declared.owners.Owners.{Owners}
use Rattle.dp_owners.specs.Positions.{NotIn, IsDistinct}
use Rattle.dp_owners.specs.Chain.{IsChain}
use Rattle.dp_owners.specs.Threaded.{IsThreaded, AreAt}
use Rattle.dp_owners.specs.Reading.{listed_count}
use Rattle.dp_owners.proofs.Mending.{get_below}
use Rattle.dp_owners.proofs.Positions.{IsNot, all_join, all_map}
use Rattle.dp_owners.proofs.Homes.{IsAt}
use Rattle.dp_owners.proofs.Changes.{changed}

abbrev IsBelow : ℕ → ℕ → Type 0
IsBelow n x = x < n

-- distinct positions below a number are at most that many
never_is : (x : ℕ) (xs : List ℕ) → NotIn x xs → AllByRecursion (λ y. eqb x y ≡ false) xs
never_is x = all_map (IsNot x) (λ y. eqb x y ≡ false) (λ y other. ne_eqb x y (λ e. other (sym e)))

are_distinct : (xs : List ℕ) → IsDistinct xs → AreDistinct eqb xs
unfolding AreDistinct
are_distinct [] d = tt
are_distinct (x ∷ xs) d = (never_is x xs d.0, are_distinct xs d.1)

or_cases : (a b : Bool) → (a || b) ≡ true → (a ≡ true) ⊎ (b ≡ true)
or_cases true b e = inl refl
or_cases false b e = inr e

is_below : (n : ℕ) (xs : List ℕ) → AllByRecursion (IsBelow n) xs → (q : ℕ) → list_any (eqb q) xs ≡ true → q < n
is_below n [] all q e = absurd cc
is_below n (x ∷ xs) all q e = elim (or_cases (eqb q x) (list_any (eqb q) xs) e) [ inl here ↦ subst (IsBelow n) (sym (eqb-true q x here)) all.0 | inr there ↦ is_below n xs all.1 q there ]

pub fits : (n : ℕ) (xs : List ℕ) → IsDistinct xs → AllByRecursion (IsBelow n) xs → length xs ≤ n
fits n xs d all = length-le_from_distinct_below xs n (are_distinct xs d) (is_below n xs all)

chain_below : (links : List Links) (before : Option ℕ) (xs : List ℕ) (after : Option ℕ) → IsChain links before xs after → AllByRecursion (IsBelow (length links)) xs
chain_below links before [] after chain = tt
chain_below links before (x ∷ xs) after chain = (get_below links x _ chain.0, chain_below links _ xs after chain.1)

pub list_fits : (owners : Owners) (links : List Links) (lists : ℕ → List ℕ) (m : ℕ) → m < MOST_MASTERS → IsThreaded owners links lists → length (lists m) ≤ length links
list_fits owners links lists m small threaded = fits (length links) (lists m) (threaded.distinct m small) (chain_below links None (lists m) None (threaded.chains m small))

-- the lists of the masters below a number, joined
joined : ℕ → (ℕ → List ℕ) → List ℕ
joined zero lists = []
joined (suc masters) lists = lists masters ++ joined masters lists

length-joined : (n : ℕ) (lists : ℕ → List ℕ) → length (joined n lists) ≡ listed_count n lists
unfolding joined listed_count
length-joined zero lists = refl
length-joined (suc n) lists = omega (arith, length-append (lists n) (joined n lists), length-joined n lists)

all_joined : (P : ℕ → Type 0) (n : ℕ) (lists : ℕ → List ℕ) → ((m : ℕ) → m < n → AllByRecursion P (lists m)) → AllByRecursion P (joined n lists)
unfolding joined
all_joined P zero lists each = tt
all_joined P (suc n) lists each = all_join P (lists n) (joined n lists) (each n (omega arith)) (all_joined P n lists (λ m below. each m (omega arith)))

-- lists at home with different masters have no record in common
home_differs : (home : ℕ → ℕ) (n x y : ℕ) → home x ≡ n → home y < n → y ≢ x
home_differs home n x y here less same = absurd (omega (arith, here, less, ap home same))

distinct_apart : (home : ℕ → ℕ) (n : ℕ) (xs ys : List ℕ) → IsDistinct xs → IsDistinct ys → AreAt home n xs → AllByRecursion (λ y. home y < n) ys → IsDistinct (xs ++ ys)
distinct_apart home n [] ys one two here under = two
distinct_apart home n (x ∷ xs) ys one two here under = (
  all_join (IsNot x) xs ys one.0 (all_map (λ y. home y < n) (IsNot x) (λ y less same. home_differs home n x y here.0 less same) ys under),
  distinct_apart home n xs ys one.1 two here.1 under,
)

distinct_joined : (home : ℕ → ℕ) (n : ℕ) (lists : ℕ → List ℕ) → ((m : ℕ) → m < n → IsDistinct (lists m)) → ((m : ℕ) → m < n → AreAt home m (lists m)) → IsDistinct (joined n lists)
unfolding joined
distinct_joined home zero lists distinct at_home = tt
distinct_joined home (suc n) lists distinct at_home =
    distinct_apart home n (lists n) (joined n lists) (distinct n (omega arith)) (distinct_joined home n lists (λ m below. distinct m (omega arith)) (λ m below. at_home m (omega arith))) (at_home n (omega arith))
    (all_joined (λ y. home y < n) n lists (λ m below. all_map (IsAt home m) (λ y. home y < n) (λ y there. omega (arith, there)) (lists m) (at_home m (omega arith))))

pub all_fit : (owners : Owners) (links : List Links) (lists : ℕ → List ℕ) → IsThreaded owners links lists → listed_count MOST_MASTERS lists ≤ length links
all_fit owners links lists threaded =
    let short : length (joined MOST_MASTERS lists) ≤ length links =
    fits (length links) (joined MOST_MASTERS lists) (distinct_joined threaded.home MOST_MASTERS lists threaded.distinct threaded.at_home)
    (all_joined (IsBelow (length links)) MOST_MASTERS lists (λ m small. chain_below links None (lists m) None (threaded.chains m small))) in
    omega (arith, short, length-joined MOST_MASTERS lists)

-- the count after a change of one list
count_others : (n m : ℕ) (lists : ℕ → List ℕ) (new : List ℕ) → n ≤ m → listed_count n (changed lists m new) ≡ listed_count n lists
unfolding listed_count
count_others zero m lists new over = refl
count_others (suc n) m lists new over =
    let other : n ≢ m = omega arith in
    let same : changed lists m new n ≡ lists n = rw (ne_eqb n m other) refl in
    omega (arith, ap (λ (xs : List ℕ). length xs) same, count_others n m lists new (omega arith))

count_by : (n m : ℕ) (lists : ℕ → List ℕ) (new : List ℕ) (b : Bool) → eqb n m ≡ b → m < suc n → (m < n → listed_count n (changed lists m new) + length (lists m) ≡ listed_count n lists + length new)
    → (length (changed lists m new n) + listed_count n (changed lists m new)) + length (lists m) ≡ (length (lists n) + listed_count n lists) + length new
count_by n m lists new true e below more =
    let same : n ≡ m = eqb-true n m e in
    let here : changed lists m new n ≡ new = rw e refl in
    omega (arith, ap (λ (xs : List ℕ). length xs) here, ap (λ k. length (lists k)) same, count_others n m lists new (omega (arith, same)))
count_by n m lists new false e below more =
    let other : n ≢ m = eqb-false n m e in
    let here : changed lists m new n ≡ lists n = rw e refl in
    omega (arith, ap (λ (xs : List ℕ). length xs) here, more (omega arith))

pub count_changed : (n m : ℕ) (lists : ℕ → List ℕ) (new : List ℕ) → m < n → listed_count n (changed lists m new) + length (lists m) ≡ listed_count n lists + length new
unfolding listed_count
count_changed zero m lists new below = absurd (omega arith)
count_changed (suc n) m lists new below = count_by n m lists new (eqb n m) refl below (λ less. count_changed n m lists new less)
