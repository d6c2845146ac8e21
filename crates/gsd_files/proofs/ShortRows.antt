-- No row of a module that is written has more than 80 octets.
use Rattle.std.proofs.Common.{◌≡◌, ℕ, ◌+◌, ◌-◌, ◌*◌, ◌/◌, ◌%◌, ◌≤◌, ◌<◌, ◌==◌, Bool, true, false, List, [], ◌∷◌, ◌++◌, length, refl, ap, ◌∙◌, append_assoc, codes, arith, ◌&&◌}
use Rattle.std.specs.Prelude.{if◌then◌else◌, nat_lt}
use Rattle.std.specs.Fmt.{digit_glyph, decimal}
use Rattle.std.proofs.lemmas.Bool.Decides.{nat_tests}
use Rattle.std.proofs.lemmas.Fmt.{length-decimal-le_succ}
use Rattle.gsd_files.specs.GsdText.{line_end, hex_2, separator, room_behind, octets_text, module_text}
use Rattle.gsd_files.specs.WrittenRows.{rows_within}

is_below : (column : ℕ) → column < 80 → nat_lt column 80 ≡ true
is_below column room = grind (arith, nat_tests)

step : (column octet : ℕ) (rest : List ℕ) → (octet == 10) ≡ false → column < 80
    → rows_within 80 column (octet ∷ rest) ≡ rows_within 80 (column + 1) rest
step column octet rest other room =
    ap (λ (b : Bool). if b then rows_within 80 0 rest else nat_lt column 80 && rows_within 80 (column + 1) rest) other
    ∙ ap (λ (b : Bool). b && rows_within 80 (column + 1) rest) (is_below column room)

no_end : (digit : ℕ) → digit < 16 → (digit_glyph true digit == 10) ≡ false
no_end digit small = grind (arith, nat_tests)

octet_fits : (column octet : ℕ) (rest : List ℕ) → column + 4 ≤ 80
    → rows_within 80 column (codes "0x" ++ (hex_2 octet ++ rest)) ≡ rows_within 80 (column + 4) rest
unfolding hex_2
octet_fits column octet rest room =
    let high : ℕ = digit_glyph true (octet / 16 % 16) in
    let low : ℕ = digit_glyph true (octet % 16) in
    let sum : column + 1 + 1 + 1 + 1 ≡ column + 4 = omega arith in
    step column 48 (120 ∷ high ∷ low ∷ rest) refl (omega arith)
    ∙ step (column + 1) 120 (high ∷ low ∷ rest) refl (omega arith)
    ∙ step (column + 1 + 1) high (low ∷ rest) (no_end (octet / 16 % 16) (omega arith)) (omega arith)
    ∙ step (column + 1 + 1 + 1) low rest (no_end (octet % 16) (omega arith)) (omega arith)
    ∙ ap (λ (c : ℕ). rows_within 80 c rest) sum

break_fits : (column : ℕ) (rest : List ℕ) → column + 3 ≤ 80 → rows_within 80 column (codes ",\\" ++ line_end ++ rest) ≡ rows_within 80 0 rest
break_fits column rest room =
    step column 44 (92 ∷ 13 ∷ 10 ∷ rest) refl (omega arith)
    ∙ step (column + 1) 92 (13 ∷ 10 ∷ rest) refl (omega arith)
    ∙ step (column + 1 + 1) 13 (10 ∷ rest) refl (omega arith)

comma_fits : (column : ℕ) (rest : List ℕ) → column + 1 ≤ 80 → rows_within 80 column (codes "," ++ rest) ≡ rows_within 80 (column + 1) rest
comma_fits column rest room = step column 44 rest refl (omega arith)

-- what follows fits at each column that an octet may end at
abbrev FitsBehind : List ℕ → Type 0
FitsBehind rest = (column : ℕ) → column ≤ 77 → rows_within 80 column rest ≡ true

joined_behind : (a b c rest : List ℕ) → (codes "0x" ++ (a ++ (b ++ c))) ++ rest ≡ codes "0x" ++ (a ++ (b ++ (c ++ rest)))
joined_behind a b c rest =
    append_assoc (codes "0x") (a ++ (b ++ c)) rest
    ∙ ap (λ x. codes "0x" ++ x) (append_assoc a (b ++ c) rest ∙ ap (λ x. a ++ x) (append_assoc b c rest))

is_more : (room : ℕ) → (room == 0) ≡ false → 1 ≤ room
is_more room more = grind (arith, nat_tests)

-- the octets behind another one fit, in its row or in the next one
behind_separator : (is_last : Bool) (room column : ℕ) (octets rest : List ℕ) → (room == 0) ≡ is_last → column + 5 * room + 7 ≤ 80
    → ((r c : ℕ) → c + 5 * r + 7 ≤ 80 → rows_within 80 c (octets_text r octets ++ rest) ≡ true)
    → rows_within 80 (column + 4) (separator room ++ (octets_text (room_behind room) octets ++ rest)) ≡ true
behind_separator true room column octets rest last fits others =
    let behind : List ℕ = octets_text (room_behind room) octets ++ rest in
    ap (λ (b : Bool). rows_within 80 (column + 4) ((if b then codes ",\\" ++ line_end else codes ",") ++ behind)) last
    ∙ break_fits (column + 4) behind (omega arith)
    ∙ ap (λ (b : Bool). rows_within 80 0 (octets_text (if b then 14 else room - 1) octets ++ rest)) last
    ∙ others 14 0 (omega arith)
behind_separator false room column octets rest last fits others =
    let behind : List ℕ = octets_text (room_behind room) octets ++ rest in
    let more : 1 ≤ room = is_more room last in
    ap (λ (b : Bool). rows_within 80 (column + 4) ((if b then codes ",\\" ++ line_end else codes ",") ++ behind)) last
    ∙ comma_fits (column + 4) behind (omega arith)
    ∙ ap (λ (b : Bool). rows_within 80 (column + 4 + 1) (octets_text (if b then 14 else room - 1) octets ++ rest)) last
    ∙ others (room - 1) (column + 4 + 1) (omega (arith, more))

octets_fit : (octets : List ℕ) (room column : ℕ) (rest : List ℕ) → column + 5 * room + 7 ≤ 80 → FitsBehind rest
    → rows_within 80 column (octets_text room octets ++ rest) ≡ true
octets_fit [] room column rest fits behind = behind column (omega arith)
octets_fit (octet ∷ []) room column rest fits behind =
    ap (λ x. rows_within 80 column x) (append_assoc (codes "0x") (hex_2 octet) rest)
    ∙ octet_fits column octet rest (omega arith) ∙ behind (column + 4) (omega arith)
octets_fit (octet ∷ next ∷ octets) room column rest fits behind =
    ap (λ x. rows_within 80 column x) (joined_behind (hex_2 octet) (separator room) (octets_text (room_behind room) (next ∷ octets)) rest)
    ∙ octet_fits column octet (separator room ++ (octets_text (room_behind room) (next ∷ octets) ++ rest)) (omega arith)
    ∙ behind_separator (room == 0) room column (next ∷ octets) rest refl fits (λ r c room_left. octets_fit (next ∷ octets) r c rest room_left behind)

-- ---- the rows of a module

octet_or_end : (is_end : Bool) (column octet : ℕ) (rest : List ℕ) → (octet == 10) ≡ is_end → column < 80
    → ((c : ℕ) → c ≤ column + 1 → rows_within 80 c rest ≡ true) → rows_within 80 column (octet ∷ rest) ≡ true
octet_or_end true column octet rest end room others =
    ap (λ (b : Bool). if b then rows_within 80 0 rest else nat_lt column 80 && rows_within 80 (column + 1) rest) end ∙ others 0 (omega arith)
octet_or_end false column octet rest end room others = step column octet rest end room ∙ others (column + 1) (omega arith)

-- a text fits that is short enough
text_fits : (text : List ℕ) (column : ℕ) (rest : List ℕ) → column + length text ≤ 77 → FitsBehind rest → rows_within 80 column (text ++ rest) ≡ true
text_fits [] column rest room behind = behind column (omega arith)
text_fits (octet ∷ text) column rest room behind =
    octet_or_end (octet == 10) column octet (text ++ rest) refl (omega arith)
    (λ c within. text_fits text c rest (omega arith) behind)

row_end_fits : (rest : List ℕ) → rows_within 80 0 rest ≡ true → FitsBehind (line_end ++ rest)
row_end_fits rest after column room = step column 13 (10 ∷ rest) refl (omega arith) ∙ after

digit_is_no_end : (number : ℕ) → ((48 + number) == 10) ≡ false
digit_is_no_end number = grind (arith, nat_tests)

number_and_end_fit : (number : ℕ) → number < 10 → rows_within 80 0 (decimal (number + 1) ++ (line_end ++ (codes "EndModule" ++ line_end))) ≡ true
number_and_end_fit number small =
    text_fits (decimal (number + 1)) 0 (line_end ++ (codes "EndModule" ++ line_end)) (omega (arith, length-decimal-le_succ (number + 1) (omega arith)))
    (row_end_fits (codes "EndModule" ++ line_end) refl)

pub module_fits : (number : ℕ) (octets : List ℕ) → number < 10 → rows_within 80 0 (module_text number octets) ≡ true
unfolding module_text
module_fits number octets small =
    let end : List ℕ = decimal (number + 1) ++ (line_end ++ (codes "EndModule" ++ line_end)) in
    step 24 (48 + number) (codes "\" " ++ (octets_text 9 octets ++ (line_end ++ end))) (digit_is_no_end number) (omega arith)
    ∙ octets_fit octets 9 27 (line_end ++ end) (omega arith) (row_end_fits end (number_and_end_fit number small))
