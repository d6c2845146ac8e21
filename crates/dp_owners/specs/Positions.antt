-- promise
-- Lists of positions.
use Rattle.std.specs.Prelude.{◌≡◌, ◌≢◌, ℕ, ◌==◌, not, List, [], ◌∷◌, ◌++◌, filter, Option, Some}
use Rattle.std.specs.List.{AllByRecursion}

-- the first of a list, or what comes after the list if it is empty (own)
abbrev pub first_or : List ℕ → Option ℕ → Option ℕ
first_or [] after = after
first_or (at ∷ others) after = Some at

-- the last of a list, or what comes before the list if it is empty (own)
abbrev pub last_or : Option ℕ → List ℕ → Option ℕ
last_or before [] = before
last_or before (at ∷ others) = last_or (Some at) others

-- a list without its first (own)
abbrev pub rest_of : List ℕ → List ℕ
rest_of [] = []
rest_of (at ∷ others) = others

-- the list without a position (own)
abbrev pub without : ℕ → List ℕ → List ℕ
without at list = filter (λ other. not (other == at)) list

-- the position is not in the list (own)
abbrev pub NotIn : ℕ → List ℕ → Type 0
NotIn at list = AllByRecursion (λ other. other ≢ at) list

-- the position is in the list (own)
abbrev pub IsIn : ℕ → List ℕ → Type 0
IsIn at list = (before : List ℕ) × (after : List ℕ) × (list ≡ before ++ at ∷ after)

-- no position is twice in the list (own)
abbrev pub IsDistinct : List ℕ → Type 0
IsDistinct [] = Unit {0}
IsDistinct (at ∷ others) = NotIn at others × IsDistinct others
