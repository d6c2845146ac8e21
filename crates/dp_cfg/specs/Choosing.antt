-- promise
-- The choice of the configuration that has the octets of a request.
use Rattle.std.specs.Prelude.{ℕ, suc, ◌==◌, ◌&&◌, if◌then◌else◌, Bool, true, false, List, [], ◌∷◌, Option, Some, None}
use Rattle.std.specs.Option.{option_map}

-- the same octets, one by one (own)
abbrev pub same_octets : List ℕ → List ℕ → Bool
same_octets [] [] = true
same_octets [] (y ∷ ys) = false
same_octets (x ∷ xs) [] = false
same_octets (x ∷ xs) (y ∷ ys) = x == y && same_octets xs ys

-- the number, from 0, of the first configuration with these octets; None if none has them (IEC 61158-6-3, Chk_Cfg request)
abbrev pub chosen : List (List ℕ) → List ℕ → Option ℕ
chosen [] octets = None
chosen (first ∷ others) octets =
    if same_octets first octets then Some 0 else option_map suc (chosen others octets)

-- the greatest number of configurations to choose among: as many as one octet can number (own)
abbrev pub most_choices : ℕ
most_choices = 256
