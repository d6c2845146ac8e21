-- helper
-- Example choices: the number of the first configuration with the octets.
use Rattle.std.specs.Prelude.{◌≡◌, [], ◌∷◌, Some, None, refl}
use Rattle.dp_cfg.specs.Choosing.{chosen}

pub first_of_two_equal_ones : chosen ((0x21 ∷ []) ∷ (0x21 ∷ []) ∷ []) (0x21 ∷ []) ≡ Some 0
first_of_two_equal_ones = refl

pub second : chosen ((0x11 ∷ []) ∷ (0x21 ∷ 0x11 ∷ []) ∷ []) (0x21 ∷ 0x11 ∷ []) ≡ Some 1
second = refl

pub none : chosen ((0x21 ∷ []) ∷ (0x21 ∷ 0x11 ∷ 0x11 ∷ []) ∷ []) (0x21 ∷ 0x11 ∷ []) ≡ None
none = refl

pub none_of_none : chosen [] [] ≡ None
none_of_none = refl

pub no_octets_are_the_empty_configuration : chosen ((0x21 ∷ []) ∷ [] ∷ []) [] ≡ Some 1
no_octets_are_the_empty_configuration = refl
