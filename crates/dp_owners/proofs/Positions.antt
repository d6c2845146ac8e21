-- Lists of positions: what is in them, their ends, and the list without one of them.
use Rattle.std.proofs.Common.{◌≡◌, ◌≢◌, ℕ, List, [], ◌∷◌, ◌++◌, Option, Some, None, refl, sym, ap}
use Rattle.std.specs.List.{AllByRecursion}
use Rattle.std.proofs.lemmas.Bool.{ne_eqb, eq-eqb}
use Rattle.dp_owners.specs.Positions.{first_or, last_or, without, NotIn, IsDistinct}

-- what holds for each position
pub all_join : (P : ℕ → Type 0) (xs ys : List ℕ) → AllByRecursion P xs → AllByRecursion P ys → AllByRecursion P (xs ++ ys)
all_join P [] ys one two = two
all_join P (x ∷ xs) ys one two = (one.0, all_join P xs ys one.1 two)

pub all_front : (P : ℕ → Type 0) (xs ys : List ℕ) → AllByRecursion P (xs ++ ys) → AllByRecursion P xs
all_front P [] ys all = tt
all_front P (x ∷ xs) ys all = (all.0, all_front P xs ys all.1)

pub all_back : (P : ℕ → Type 0) (xs ys : List ℕ) → AllByRecursion P (xs ++ ys) → AllByRecursion P ys
all_back P [] ys all = all
all_back P (x ∷ xs) ys all = all_back P xs ys all.1

pub all_map : (P Q : ℕ → Type 0) → ((x : ℕ) → P x → Q x) → (xs : List ℕ) → AllByRecursion P xs → AllByRecursion Q xs
all_map P Q f [] all = tt
all_map P Q f (x ∷ xs) all = (f x all.0, all_map P Q f xs all.1)

pub all_both : (P Q R : ℕ → Type 0) → ((x : ℕ) → P x → Q x → R x) → (xs : List ℕ) → AllByRecursion P xs → AllByRecursion Q xs → AllByRecursion R xs
all_both P Q R f [] one two = tt
all_both P Q R f (x ∷ xs) one two = (f x one.0 two.0, all_both P Q R f xs one.1 two.1)

abbrev pub IsNot : ℕ → ℕ → Type 0
IsNot at x = x ≢ at

-- lists without repeats
pub distinct_front : (xs ys : List ℕ) → IsDistinct (xs ++ ys) → IsDistinct xs
distinct_front [] ys d = tt
distinct_front (x ∷ xs) ys d = (all_front (IsNot x) xs ys d.0, distinct_front xs ys d.1)

pub distinct_back : (xs ys : List ℕ) → IsDistinct (xs ++ ys) → IsDistinct ys
distinct_back [] ys d = d
distinct_back (x ∷ xs) ys d = distinct_back xs ys d.1

pub distinct_push : (xs : List ℕ) (at : ℕ) → IsDistinct xs → NotIn at xs → IsDistinct (xs ++ at ∷ [])
distinct_push [] at d out = (tt, tt)
distinct_push (x ∷ xs) at d out = (all_join (IsNot x) xs (at ∷ []) d.0 (λ e. out.0 (sym e), tt), distinct_push xs at d.1 out.1)

-- a list that is xs, then at, then ys
pub distinct_less : (xs : List ℕ) (at : ℕ) (ys : List ℕ) → IsDistinct (xs ++ at ∷ ys) → IsDistinct (xs ++ ys)
distinct_less [] at ys d = d.1
distinct_less (x ∷ xs) at ys d =
    (all_join (IsNot x) xs ys (all_front (IsNot x) xs (at ∷ ys) d.0) (all_back (IsNot x) xs (at ∷ ys) d.0).1, distinct_less xs at ys d.1)

pub all_less : (P : ℕ → Type 0) (xs : List ℕ) (at : ℕ) (ys : List ℕ) → AllByRecursion P (xs ++ at ∷ ys) → AllByRecursion P (xs ++ ys)
all_less P xs at ys all = all_join P xs ys (all_front P xs (at ∷ ys) all) (all_back P xs (at ∷ ys) all).1

pub all_more : (P : ℕ → Type 0) (xs : List ℕ) (at : ℕ) (ys : List ℕ) → P at → AllByRecursion P (xs ++ ys) → AllByRecursion P (xs ++ at ∷ ys)
all_more P xs at ys here all = all_join P xs (at ∷ ys) (all_front P xs ys all) (here, all_back P xs ys all)

pub out_of_rest : (xs : List ℕ) (at : ℕ) (ys : List ℕ) → IsDistinct (xs ++ at ∷ ys) → NotIn at (xs ++ ys)
out_of_rest [] at ys d = d.0
out_of_rest (x ∷ xs) at ys d = (λ e. (all_back (IsNot x) xs (at ∷ ys) d.0).0 (sym e), out_of_rest xs at ys d.1)

without_none : (at : ℕ) (xs : List ℕ) → NotIn at xs → without at xs ≡ xs
without_none at [] out = refl
without_none at (x ∷ xs) out = rw (ne_eqb x at out.0) (ap (λ rest. x ∷ rest) (without_none at xs out.1))

pub without_one : (xs : List ℕ) (at : ℕ) (ys : List ℕ) → NotIn at (xs ++ ys) → without at (xs ++ at ∷ ys) ≡ xs ++ ys
without_one [] at ys out = rw (eq-eqb at at refl) (without_none at ys out)
without_one (x ∷ xs) at ys out = rw (ne_eqb x at out.0) (ap (λ rest. x ∷ rest) (without_one xs at ys out.1))

pub append_nil : (xs : List ℕ) → xs ++ [] ≡ xs
append_nil [] = refl
append_nil (x ∷ xs) = ap (λ rest. x ∷ rest) (append_nil xs)

-- the ends of a list
pub last_join : (before : Option ℕ) (xs ys : List ℕ) → last_or before (xs ++ ys) ≡ last_or (last_or before xs) ys
last_join before [] ys = refl
last_join before (x ∷ xs) ys = last_join (Some x) xs ys

pub last_is_other : (x : ℕ) (before : Option ℕ) (xs : List ℕ) → before ≢ Some x → NotIn x xs → last_or before xs ≢ Some x
last_is_other x before [] other out = other
last_is_other x before (y ∷ xs) other out = last_is_other x (Some y) xs (λ e. out.0 cc) out.1

pub first_is_other : (x : ℕ) (xs : List ℕ) → NotIn x xs → first_or xs None ≢ Some x
first_is_other x [] out = λ e. absurd cc
first_is_other x (y ∷ xs) out = λ e. out.0 cc

-- the record, if there is one, is not in the list
abbrev pub Misses : Option ℕ → List ℕ → Type 0
Misses None xs = Unit {0}
Misses (Some at) xs = NotIn at xs

pub misses_first : (at : Option ℕ) (x : ℕ) (xs : List ℕ) → Misses at (x ∷ xs) → at ≢ Some x
misses_first None x xs missed = λ e. absurd cc
misses_first (Some at) x xs missed = λ e. missed.0 cc

pub misses_rest : (at : Option ℕ) (x : ℕ) (xs : List ℕ) → Misses at (x ∷ xs) → Misses at xs
misses_rest None x xs missed = tt
misses_rest (Some at) x xs missed = missed.1

pub last_misses : (before : Option ℕ) (xs ys : List ℕ) → IsDistinct (xs ++ ys) → Misses before ys → Misses (last_or before xs) ys
last_misses before [] ys d out = out
last_misses before (x ∷ xs) ys d out = last_misses (Some x) xs ys d.1 (all_back (IsNot x) xs ys d.0)

pub first_misses : (xs ys : List ℕ) → IsDistinct (xs ++ ys) → Misses (first_or ys None) xs
first_misses xs [] d = tt
first_misses xs (y ∷ ys) d = all_front (IsNot y) xs ys (out_of_rest xs y ys d)
