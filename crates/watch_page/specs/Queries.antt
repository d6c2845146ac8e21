-- detail
-- What the query of a request for the state asks for (own): run=R&after=N.
use Rattle.std.specs.Prelude.{ℕ, not, ◌&&◌, ◌==◌, ◌^◌, nat_eq, nat_lt, if◌then◌else◌, List, length, bytes_eq, codes, Option, Some, None, unwrap_or}
use Rattle.std.specs.List.{after_first, before_first}
use Rattle.std.specs.Option.{option_eq}
use Rattle.std.specs.Str.{all_ascii_digits}
use Rattle.std.specs.Str.Parse.{digits_value}

-- the number, below 2^64, that a word of decimal digits is; zeros may lead; None for any other word, also with a sign
abbrev pub number_of : List ℕ → Option ℕ
number_of word =
    if all_ascii_digits word && not (length word == 0) && nat_lt (digits_value 10 word) (2 ^ 64) then Some (digits_value 10 word) else None

-- the number of a field NAME=DIGITS with this name, whose name ends at the first `=` (61); None for any other field
abbrev pub number_named : List ℕ → List ℕ → Option ℕ
number_named name field =
    if bytes_eq (before_first (λ byte. byte == 61) field) name then number_of (after_first (λ byte. byte == 61) field) else None

-- the N of run=R&after=N if R is this run, whose first field ends at the first `&` (38); 0 for any other query, or none
abbrev pub entries_after : Option (List ℕ) → ℕ → ℕ
entries_after None run = 0
entries_after (Some query) run =
    if option_eq nat_eq (number_named (codes "run") (before_first (λ byte. byte == 38) query)) (Some run) then unwrap_or (number_named (codes "after") (after_first (λ byte. byte == 38) query)) 0
    else 0
