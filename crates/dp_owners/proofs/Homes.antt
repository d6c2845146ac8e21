-- Records at home in one list are in no other.
use Rattle.std.proofs.Common.{◌≡◌, ◌≢◌, ℕ, cond, eqb, List, [], ◌∷◌, ◌++◌, Option, Some, None, refl, sym, ap, ◌∙◌}
use Rattle.std.proofs.lemmas.Bool.{ne_eqb, eq-eqb}
use Rattle.dp_owners.specs.Positions.{first_or, last_or, NotIn}
use Rattle.dp_owners.specs.Threaded.{AreAt}
use Rattle.dp_owners.proofs.Positions.{IsNot, Misses, all_join, all_map, all_both}

abbrev pub IsAt : (ℕ → ℕ) → ℕ → ℕ → Type 0
IsAt home m x = home x ≡ m

-- the homes, with another home for one record
abbrev pub moved : (ℕ → ℕ) → ℕ → ℕ → ℕ → ℕ
moved home at m x = cond (eqb x at) m (home x)

pub home_kept : (home : ℕ → ℕ) (at m n : ℕ) (xs : List ℕ) → AreAt home n xs → NotIn at xs → AreAt (moved home at m) n xs
home_kept home at m n = all_both (IsAt home n) (IsNot at) (IsAt (moved home at m) n) (λ x there other. rw (ne_eqb x at other) there)

pub home_push : (home : ℕ → ℕ) (at m : ℕ) (xs : List ℕ) → AreAt home m xs → NotIn at xs → AreAt (moved home at m) m (xs ++ at ∷ [])
home_push home at m xs there out =
    all_join (IsAt (moved home at m) m) xs (at ∷ []) (home_kept home at m m xs there out) (rw (eq-eqb at at refl) refl, tt)

pub away : (home : ℕ → ℕ) (m n x : ℕ) (ys : List ℕ) → m ≢ n → home x ≡ m → AreAt home n ys → NotIn x ys
away home m n x ys apart here = all_map (IsAt home n) (IsNot x) (λ y there e. apart (sym here ∙ ap home (sym e) ∙ there)) ys

pub first_away : (home : ℕ → ℕ) (m n : ℕ) (xs ys : List ℕ) → m ≢ n → AreAt home m xs → AreAt home n ys → Misses (first_or xs None) ys
first_away home m n [] ys apart one two = tt
first_away home m n (x ∷ xs) ys apart one two = away home m n x ys apart one.0 two

pub last_away : (home : ℕ → ℕ) (m n : ℕ) (before : Option ℕ) (xs ys : List ℕ) → m ≢ n → AreAt home m xs → AreAt home n ys → Misses before ys → Misses (last_or before xs) ys
last_away home m n before [] ys apart one two out = out
last_away home m n before (x ∷ xs) ys apart one two out = last_away home m n (Some x) xs ys apart one.1 two (away home m n x ys apart one.0 two)
