-- The numbers of the bits that are 1, from one number on.
use Rattle.std.proofs.Common.{◌≡◌, ℕ, suc, ◌<◌, ◌≤◌, ◌+◌, ◌-◌, ◌*◌, true, false, codes, List, [], ◌∷◌, ◌++◌, length, refl, ap, ◌∙◌, arith}
use Rattle.std.specs.Prelude.{cond, filter}
use Rattle.std.specs.Fmt.{decimal}
use Rattle.std.specs.List.{flat_map, join_by, range_with_len}
use Rattle.explain_octets.specs.Blocks.{identifiers_text, identifiers_word, is_set_in, set_bits}
use Rattle.explain_octets.specs.PrivateWords.{numbers_behind, set_from}

-- the bit with this number, and the bits after it
set_step : (octets : List ℕ) (number : ℕ) → number < length octets * 8 → set_from octets number ≡ cond (is_set_in octets number) (number ∷ set_from octets (number + 1)) (set_from octets (number + 1))
set_step octets number within =
    let more : length octets * 8 - number ≡ suc (length octets * 8 - (number + 1)) = omega arith in
    ap (λ count. filter (is_set_in octets) (range_with_len number count)) more

pub set_here : (octets : List ℕ) (number : ℕ) → number < length octets * 8 → is_set_in octets number ≡ true → set_from octets number ≡ number ∷ set_from octets (number + 1)
set_here octets number within is_set =
    set_step octets number within ∙ ap (λ b. cond b (number ∷ set_from octets (number + 1)) (set_from octets (number + 1))) is_set

pub set_later : (octets : List ℕ) (number : ℕ) → number < length octets * 8 → is_set_in octets number ≡ false → set_from octets number ≡ set_from octets (number + 1)
set_later octets number within is_clear =
    set_step octets number within ∙ ap (λ b. cond b (number ∷ set_from octets (number + 1)) (set_from octets (number + 1))) is_clear

pub set_nowhere : (octets : List ℕ) (number : ℕ) → length octets * 8 ≤ number → set_from octets number ≡ []
set_nowhere octets number beyond =
    let none : length octets * 8 - number ≡ 0 = omega arith in
    ap (λ count. filter (is_set_in octets) (range_with_len number count)) none

-- from 0 on they are all
pub set_from_0 : (octets : List ℕ) → set_from octets 0 ≡ set_bits octets
set_from_0 octets =
    let all : length octets * 8 - 0 ≡ length octets * 8 = omega arith in
    ap (λ count. filter (is_set_in octets) (range_with_len 0 count)) all

-- ---- numbers with separators before them

more_behind : (numbers : List ℕ) → numbers_behind (codes ", ") numbers ≡ flat_map (λ number. codes ", " ++ decimal number) numbers
more_behind [] = refl
more_behind (number ∷ numbers) = ap (λ more. codes ", " ++ decimal number ++ more) (more_behind numbers)

pub numbers_are_joined : (numbers : List ℕ) → numbers_behind [] numbers ≡ join_by decimal (codes ", ") numbers
numbers_are_joined [] = refl
numbers_are_joined (number ∷ numbers) = ap (λ more. decimal number ++ more) (more_behind numbers)

-- the word and the numbers are the text
pub word_and_numbers : (octets : List ℕ) → identifiers_word (set_bits octets) ++ numbers_behind [] (set_from octets 0) ≡ identifiers_text (set_bits octets)
word_and_numbers octets =
    ap (λ numbers. identifiers_word (set_bits octets) ++ numbers_behind [] numbers) (set_from_0 octets)
    ∙ ap (λ text. identifiers_word (set_bits octets) ++ text) (numbers_are_joined (set_bits octets))
