-- helper
-- Example configurations: the inputs and outputs of the octets, or their fault.
use Rattle.std.specs.Prelude.{◌≡◌, ℕ, List, [], ◌∷◌, Some, Err, refl}
use Rattle.dp_cfg.specs.Identifiers.{identifier}
use Rattle.dp_cfg.specs.Reading.{split_of, input_octets, output_octets, reading_of}
use Rattle.dp_cfg.specs.declared.fault.CfgFault.TheVariants.{Cut, TooLong}

-- inputs and outputs
abbrev sums_of : List ℕ → ℕ × ℕ
sums_of octets = (input_octets octets, output_octets octets)

pub no_octets : sums_of [] ≡ (0, 0)
no_octets = refl

pub two_outputs_two_inputs : sums_of (0x21 ∷ 0x11 ∷ []) ≡ (2, 2)
two_outputs_two_inputs = refl

pub one_word_each : sums_of (0x70 ∷ []) ≡ (2, 2)
one_word_each = refl

pub two_words_of_outputs : sums_of (0xE1 ∷ []) ≡ (0, 4)
two_words_of_outputs = refl

pub double_special : sums_of (0xC1 ∷ 0x01 ∷ 0x03 ∷ 0x00 ∷ []) ≡ (4, 2)
double_special = refl

pub four_words_of_inputs : sums_of (0x40 ∷ 0xC3 ∷ []) ≡ (8, 0)
four_words_of_inputs = refl

pub no_octets_of_the_maker : sums_of (0x4F ∷ 0x00 ∷ []) ≡ (1, 0)
no_octets_of_the_maker = refl

pub octets_of_the_maker : sums_of (0x42 ∷ 0x40 ∷ 0xAA ∷ 0xBB ∷ []) ≡ (2, 0)
octets_of_the_maker = refl

pub octets_of_the_maker_are_cut : reading_of (0x42 ∷ 0x40 ∷ 0xAA ∷ []) ≡ Err Cut
octets_of_the_maker_are_cut = refl

pub empty_place : sums_of (0x00 ∷ []) ≡ (0, 0)
empty_place = refl

pub cut : reading_of (0xC1 ∷ 0x01 ∷ []) ≡ Err Cut
cut = refl

pub too_long : reading_of (0x80 ∷ 0x7F ∷ 0x80 ∷ 0x7F ∷ []) ≡ Err TooLong
too_long = refl

-- the identifiers of the double special one: outputs come before inputs
pub double_special_split : split_of (0xC1 ∷ 0x01 ∷ 0x03 ∷ 0x00 ∷ []) ≡ Some (identifier (0xC1 ∷ 0x01 ∷ 0x03 ∷ 0x00 ∷ []) 4 2 ∷ [])
double_special_split = refl

-- the maker's octets belong to their identifier, whatever they would mean on their own
pub maker_split : split_of (0x02 ∷ 0x11 ∷ 0x11 ∷ 0x21 ∷ []) ≡ Some (identifier (0x02 ∷ 0x11 ∷ 0x11 ∷ []) 0 0 ∷ identifier (0x21 ∷ []) 0 2 ∷ [])
maker_split = refl
