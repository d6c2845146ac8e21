-- detail
-- What a line of a GSD file consists of: its code, its key and its value (GSD specification, revision 3; own in detail).
use Rattle.std.specs.Prelude.{ℕ, ◌+◌, ◌-◌, ◌==◌, Bool, false, not, ◌&&◌, ◌||◌, nat_lt, if◌then◌else◌, List, [], ◌∷◌, length, take, drop, Option, Some, None, Result, Ok, Err}
use Rattle.gsd_files.specs.declared.cause.Cause.{Cause}
use Rattle.gsd_files.specs.declared.cause.Cause.TheVariants.{LongLine}

-- a space, a tab, CR, and the octet that ended files of old systems
abbrev pub is_blank : ℕ → Bool
is_blank octet = octet == 32 || octet == 9 || octet == 13 || octet == 26

-- ---- a line and its code

-- whether a text is open behind an octet: `"` opens and closes one
abbrev pub quoted_after : Bool → ℕ → Bool
quoted_after quoted octet = if octet == 34 then not quoted else quoted

-- a text is open at the end of the line
abbrev pub ends_quoted : Bool → List ℕ → Bool
ends_quoted quoted [] = quoted
ends_quoted quoted (octet ∷ octets) = ends_quoted (quoted_after quoted octet) octets

-- a comment begins with this octet: `;` outside a text
abbrev pub begins_comment : Bool → ℕ → Bool
begins_comment quoted octet = not quoted && octet == 59

-- the number of octets that are kept with one more in front of them: a blank in front of none is not kept
abbrev pub with_octet : ℕ → ℕ → ℕ
with_octet octet count = if count == 0 && is_blank octet then 0 else count + 1

-- the number of octets of a line before its comment and the blanks before that or before its end
abbrev pub code_length : Bool → List ℕ → ℕ
code_length quoted [] = 0
code_length quoted (octet ∷ octets) =
    if begins_comment quoted octet then 0 else with_octet octet (code_length (quoted_after quoted octet) octets)

-- what follows the blanks
abbrev pub skip_blanks : List ℕ → List ℕ
skip_blanks [] = []
skip_blanks (octet ∷ octets) = if is_blank octet then skip_blanks octets else octet ∷ octets

-- a line without its comment and the blanks around it; `quoted` if a text is open before it
abbrev pub trimmed : Bool → List ℕ → List ℕ
trimmed quoted line = skip_blanks (take (code_length quoted line) line)

-- the code of a line of at most 2,048 octets
abbrev pub code_of : Bool → List ℕ → Result (List ℕ) Cause
code_of quoted line = if nat_lt 2048 (length line) then Err LongLine else Ok (trimmed quoted line)

-- ---- continued lines

-- the row goes on in the next line: the code ends in `\`
abbrev pub goes_on : List ℕ → Bool
goes_on [] = false
goes_on (octet ∷ []) = octet == 92
goes_on (octet ∷ next ∷ octets) = goes_on (next ∷ octets)

-- the code without the `\` at its end
abbrev pub body_of : List ℕ → List ℕ
body_of code = if goes_on code then take (length code - 1) code else code

-- ---- a key, its argument and its value

-- octets of a key: all but blanks, `=`, `"` and `(`
abbrev pub is_key_octet : ℕ → Bool
is_key_octet octet = not (is_blank octet) && not (octet == 61) && not (octet == 34) && not (octet == 40)

abbrev pub key_length : List ℕ → ℕ
key_length [] = 0
key_length (octet ∷ octets) = if is_key_octet octet then key_length octets + 1 else 0

abbrev pub key_of : List ℕ → List ℕ
key_of body = take (key_length body) body

-- what follows the key and the blanks behind it
abbrev pub behind_key : List ℕ → List ℕ
behind_key body = skip_blanks (drop (key_length body) body)

-- the number of octets before the first one that is this mark
abbrev pub place_of : ℕ → List ℕ → ℕ
place_of mark [] = 0
place_of mark (octet ∷ octets) = if octet == mark then 0 else place_of mark octets + 1

-- a text without its first octet and the blanks behind it
abbrev pub behind_first : List ℕ → List ℕ
behind_first [] = []
behind_first (octet ∷ octets) = skip_blanks octets

-- the argument of a key: the word between `(` and `)`
abbrev pub argument_in : List ℕ → List ℕ
argument_in [] = []
argument_in (octet ∷ octets) = if octet == 40 then key_of (skip_blanks (take (place_of 41 octets) octets)) else []

-- what follows the argument and the blanks behind it
abbrev pub behind_argument : List ℕ → List ℕ
behind_argument [] = []
behind_argument (octet ∷ octets) = if octet == 40 then behind_first (drop (place_of 41 octets) octets) else octet ∷ octets

-- the argument of the key of a row
abbrev pub argument_of : List ℕ → List ℕ
argument_of body = argument_in (behind_key body)

-- what follows the key of a row and its argument
abbrev pub rest_of : List ℕ → List ℕ
rest_of body = behind_argument (behind_key body)

-- what follows `=`
abbrev pub behind_equals : List ℕ → Option (List ℕ)
behind_equals [] = None
behind_equals (octet ∷ octets) = if octet == 61 then Some (skip_blanks octets) else None

-- the value of a row, what follows its key, the argument and `=`
abbrev pub value_of : List ℕ → Option (List ℕ)
value_of body = behind_equals (rest_of body)
