-- helper
-- What a screened reader will give (own).
use Rattle.std.specs.Prelude.{ℕ, List, ◌++◌, drop, Option, option_map}

-- the first octets that were read and not returned yet, and then those that the reader will give
abbrev pub still_to_come : List ℕ → ℕ → Option (List ℕ) → Option (List ℕ)
still_to_come first given behind = option_map (λ octets. drop given first ++ octets) behind
