-- detail
-- The modules that a name stands for (own).
use Rattle.std.specs.Prelude.{ℕ, ◌==◌, Bool, true, false, not, ◌&&◌, ◌||◌, nat_le, nat_lt, nat_eq, if◌then◌else◌, List, [], ◌∷◌, length, Option, Some, None}
use Rattle.std.specs.Cmp.Lexicographic.{pointwise}
use Rattle.gsd_files.specs.declared.facts.Module.{Module}

-- letters, digits and what is not ASCII
abbrev pub is_word_octet : ℕ → Bool
is_word_octet octet =
    nat_le 48 octet && nat_le octet 57 || nat_le 65 octet && nat_le octet 90 || nat_le 97 octet && nat_le octet 122 || nat_le 128 octet

-- no word goes on in this text
abbrev pub ends_word : List ℕ → Bool
ends_word [] = true
ends_word (octet ∷ octets) = not (is_word_octet octet)

-- a name begins with these words
abbrev pub has_words : List ℕ → List ℕ → Bool
has_words name [] = ends_word name
has_words [] (letter ∷ letters) = false
has_words (octet ∷ octets) (letter ∷ letters) = octet == letter && has_words octets letters

-- the name of a module begins with these words, of which there is one at least
abbrev pub begins_with_words : List ℕ → Module → Bool
begins_with_words words part = nat_lt 0 (length words) && has_words part.name.items words

abbrev pub some_begins : List ℕ → List Module → Bool
some_begins words [] = false
some_begins words (part ∷ modules) = begins_with_words words part || some_begins words modules

-- the only module whose name begins with these words
abbrev pub only_one_with : List ℕ → List Module → Option Module
only_one_with words [] = None
only_one_with words (part ∷ modules) =
    if begins_with_words words part then (if some_begins words modules then None else Some part) else only_one_with words modules

-- the first module with this name
abbrev pub same_named : List Module → List ℕ → Option Module
same_named [] name = None
same_named (part ∷ modules) name =
    if pointwise nat_eq part.name.items name then Some part else same_named modules name

abbrev pub or_only_one : List Module → List ℕ → Option Module → Option Module
or_only_one modules name (Some part) = Some part
or_only_one modules name None = only_one_with name modules

-- the first module with this name, or else the only one whose name begins with these words
abbrev pub module_named : List Module → List ℕ → Option Module
module_named modules name = or_only_one modules name (same_named modules name)
