-- detail
-- The names of vendors and models: printable characters of ISO 8859-1 without `"`, at most 32 (own).
use Rattle.std.specs.Prelude.{ℕ, ◌+◌, ◌-◌, ◌*◌, ◌==◌, ◌&&◌, ◌||◌, nat_lt, if◌then◌else◌, List, [], ◌∷◌, ◌++◌, length, Option, Some, None, Result, Ok, Err}
use Rattle.gsd_files.specs.Steps.{◌>>=◌}
use Rattle.gsd_slaves.specs.declared.fault.NameFault.{NameFault}
use Rattle.gsd_slaves.specs.declared.fault.NameFault.TheVariants.{LongName, Quote, NoCharacter}

-- why a character can't stand in a name
abbrev pub name_fault_of : ℕ → Option NameFault
name_fault_of character =
    if character == 34 then Some Quote
    else if nat_lt character 32 || (nat_lt 126 character && nat_lt character 160) then Some NoCharacter
    else None

abbrev pub with_accepted : List ℕ → ℕ → Option NameFault → Result (List ℕ) NameFault
with_accepted name character (Some fault) = Err fault
with_accepted name character None = if length name == 32 then Err LongName else Ok (name ++ character ∷ [])

-- a name and one more character
abbrev pub with_character : List ℕ → ℕ → Result (List ℕ) NameFault
with_character name character = with_accepted name character (name_fault_of character)

-- the character of two octets of UTF-8
abbrev pub two_octets : ℕ → ℕ → Result ℕ NameFault
two_octets first second =
    if nat_lt first 194 || nat_lt 195 first || nat_lt second 128 || nat_lt 191 second then Err NoCharacter
    else Ok ((first - 194) * 64 + second)

-- a name and the characters of a text in UTF-8, behind the first octet of a character if there is one
abbrev pub latin_from : List ℕ → Option ℕ → List ℕ → Result (List ℕ) NameFault
latin_from name None [] = Ok name
latin_from name (Some first) [] = Err NoCharacter
latin_from name None (octet ∷ octets) =
    if nat_lt octet 128 then (with_character name octet >>= λ more. latin_from more None octets)
    else latin_from name (Some octet) octets
latin_from name (Some first) (octet ∷ octets) =
    two_octets first octet >>= λ character. with_character name character >>= λ more. latin_from more None octets

-- a text in ISO 8859-1
unfoldable pub latin_of : List ℕ → Result (List ℕ) NameFault
latin_of text = latin_from [] None text
