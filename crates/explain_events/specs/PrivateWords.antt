-- helper
-- Words of private functions. No public contract cites this module.
use Rattle.std.specs.Prelude.{codes, ℕ, List, [], ◌∷◌, ◌++◌}

-- texts, the first after a separator and each other one after a semicolon
abbrev pub each_behind : List ℕ → List (List ℕ) → List ℕ
each_behind separator [] = []
each_behind separator (text ∷ texts) = separator ++ text ++ each_behind (codes "; ") texts
