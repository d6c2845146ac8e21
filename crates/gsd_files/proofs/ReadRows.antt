-- Octets that are written over several rows are read back.
use Rattle.std.proofs.Common.{◌≡◌, ℕ, ◌+◌, ◌-◌, ◌/◌, ◌%◌, ◌≤◌, ◌<◌, ◌==◌, Bool, true, false, ◌&&◌, if◌then◌else◌, List, [], ◌∷◌, ◌++◌, length, take, refl, sym, ap, ◌∙◌, append_assoc, codes, arith, length-append}
use Rattle.std.specs.Prelude.{All, Result, Ok, Err}
use Rattle.std.specs.List.{slice_split, AllByRecursion}
use Rattle.std.specs.Fmt.{digit_glyph}
use Rattle.std.proofs.lemmas.Bool.Decides.{nat_tests}
use Rattle.std.proofs.lemmas.List.{append-nil}
use Rattle.std.proofs.lemmas.List.Elements.{All-nil, All-cons}
use Rattle.std.proofs.lemmas.List.Splits.{slice_split_at, slice_split_none}
use Rattle.gsd_files.specs.Steps.{◌>>=◌}
use Rattle.gsd_files.specs.Rows.{is_blank, quoted_after, with_octet, code_length, skip_blanks, trimmed, goes_on, body_of}
use Rattle.gsd_files.specs.Values.{is_separator, with_octets, with_words}
use Rattle.gsd_files.specs.Files.{is_lf, lines_of}
use Rattle.gsd_files.specs.GsdText.{line_end, hex_2, separator, room_behind, octets_text}
use Rattle.gsd_files.specs.WrittenRows.{with_lines}
use Rattle.gsd_files.specs.declared.cause.Cause.{Cause}
use Rattle.gsd_files.proofs.ReadBack.{first_words, octet_read_last, word_read}

-- ---- octets that stand for themselves in a row

record IsPlain (octet : ℕ) : Type 0 where
  no_blank : is_blank octet ≡ false
  no_quote : (octet == 34) ≡ false
  no_comment : (octet == 59) ≡ false
  no_mark : (octet == 92) ≡ false
  no_end : is_lf octet ≡ false

abbrev AllPlain : List ℕ → Type 0
AllPlain [] = Unit {0}
AllPlain (octet ∷ octets) = IsPlain octet × AllPlain octets

plain_digit : (digit : ℕ) → digit < 16 → IsPlain (digit_glyph true digit)
plain_digit digit small = record {
  no_blank = grind (arith, nat_tests);
  no_quote = grind (arith, nat_tests);
  no_comment = grind (arith, nat_tests);
  no_mark = grind (arith, nat_tests);
  no_end = grind (arith, nat_tests);
}

plain_0 : IsPlain 48
plain_0 = record { no_blank = refl; no_quote = refl; no_comment = refl; no_mark = refl; no_end = refl }

plain_x : IsPlain 120
plain_x = record { no_blank = refl; no_quote = refl; no_comment = refl; no_mark = refl; no_end = refl }

plain_comma : IsPlain 44
plain_comma = record { no_blank = refl; no_quote = refl; no_comment = refl; no_mark = refl; no_end = refl }

-- an octet as it is written
abbrev word_of : ℕ → List ℕ
word_of octet = codes "0x" ++ hex_2 octet

plain_word : (octet : ℕ) → AllPlain (word_of octet)
unfolding hex_2
plain_word octet =
    (plain_0, (plain_x, (plain_digit (octet / 16 % 16) (omega arith), (plain_digit (octet % 16) (omega arith), tt))))

plain_join : (a b : List ℕ) → AllPlain a → AllPlain b → AllPlain (a ++ b)
plain_join [] b p q = q
plain_join (octet ∷ a) b p q = (p.0, plain_join a b p.1 q)

-- ---- the code of a row

and_false : (b : Bool) → (b && false) ≡ false
and_false true = refl
and_false false = refl

code_step : (octet : ℕ) (rest : List ℕ) → IsPlain octet → code_length false (octet ∷ rest) ≡ code_length false rest + 1
code_step octet rest plain =
    ap (λ (b : Bool). if b then 0 else with_octet octet (code_length (quoted_after false octet) rest)) plain.no_comment
    ∙ ap (λ (b : Bool). with_octet octet (code_length (if b then true else false) rest)) plain.no_quote
    ∙ ap (λ (b : Bool). if (code_length false rest == 0) && b then 0 else code_length false rest + 1) plain.no_blank
    ∙ ap (λ (b : Bool). if b then 0 else code_length false rest + 1) (and_false (code_length false rest == 0))

code_plain : (text rest : List ℕ) → AllPlain text → code_length false (text ++ rest) ≡ code_length false rest + length text
code_plain [] rest plain = omega arith
code_plain (octet ∷ text) rest plain =
    let sum : code_length false rest + length text + 1 ≡ code_length false rest + length (octet ∷ text) = omega arith in
    code_step octet (text ++ rest) plain.0 ∙ ap (λ (n : ℕ). n + 1) (code_plain text rest plain.1) ∙ sum

front_of : (text rest : List ℕ) → take (length text) (text ++ rest) ≡ text
front_of [] rest = refl
front_of (octet ∷ text) rest = ap (λ (t : List ℕ). octet ∷ t) (front_of text rest)

no_blank_before : (octet : ℕ) (text : List ℕ) → IsPlain octet → skip_blanks (octet ∷ text) ≡ octet ∷ text
no_blank_before octet text plain = ap (λ (b : Bool). if b then skip_blanks text else octet ∷ text) plain.no_blank

-- a row of plain octets is its own code
trimmed_plain : (octet : ℕ) (text : List ℕ) → AllPlain (octet ∷ text) → trimmed false (octet ∷ text) ≡ octet ∷ text
trimmed_plain octet text plain =
    let same : 0 + length (octet ∷ text) ≡ length (octet ∷ text) = omega arith in
    let count : code_length false (octet ∷ text ++ []) ≡ length (octet ∷ text) = code_plain (octet ∷ text) [] plain ∙ same in
    ap (λ (t : List ℕ). skip_blanks (take (code_length false t) t)) (sym (append-nil (octet ∷ text)))
    ∙ ap (λ (n : ℕ). skip_blanks (take n (octet ∷ text ++ []))) count
    ∙ ap skip_blanks (front_of (octet ∷ text) [])
    ∙ no_blank_before octet text plain.0

-- and so is one with a `\` at its end, before CR
trimmed_more : (octet : ℕ) (text : List ℕ) → AllPlain (octet ∷ text)
    → trimmed false (octet ∷ text ++ 92 ∷ 13 ∷ []) ≡ octet ∷ text ++ 92 ∷ []
trimmed_more octet text plain =
    let same : 1 + length (octet ∷ text) ≡ length (octet ∷ text ++ 92 ∷ []) = omega (arith, length-append (octet ∷ text) (92 ∷ [])) in
    let count : code_length false (octet ∷ text ++ 92 ∷ 13 ∷ []) ≡ length (octet ∷ text ++ 92 ∷ []) =
    code_plain (octet ∷ text) (92 ∷ 13 ∷ []) plain ∙ same in
    ap (λ (n : ℕ). skip_blanks (take n (octet ∷ text ++ 92 ∷ 13 ∷ []))) count
    ∙ ap (λ (t : List ℕ). skip_blanks (take (length (octet ∷ text ++ 92 ∷ [])) t)) (sym (append_assoc (octet ∷ text) (92 ∷ []) (13 ∷ [])))
    ∙ ap skip_blanks (front_of (octet ∷ text ++ 92 ∷ []) (13 ∷ []))
    ∙ no_blank_before octet (text ++ 92 ∷ []) plain.0

goes_on_plain : (text : List ℕ) → AllPlain text → goes_on text ≡ false
goes_on_plain [] plain = refl
goes_on_plain (octet ∷ []) plain = plain.0.no_mark
goes_on_plain (octet ∷ next ∷ text) plain = goes_on_plain (next ∷ text) plain.1

goes_on_more : (text : List ℕ) → goes_on (text ++ 92 ∷ []) ≡ true
goes_on_more [] = refl
goes_on_more (octet ∷ []) = refl
goes_on_more (octet ∷ next ∷ text) = goes_on_more (next ∷ text)

body_plain : (text : List ℕ) → AllPlain text → body_of text ≡ text
body_plain text plain = ap (λ (b : Bool). if b then take (length text - 1) text else text) (goes_on_plain text plain)

body_more : (text : List ℕ) → body_of (text ++ 92 ∷ []) ≡ text
body_more text =
    let count : length (text ++ 92 ∷ []) - 1 ≡ length text = omega (arith, length-append text (92 ∷ [])) in
    ap (λ (b : Bool). if b then take (length (text ++ 92 ∷ []) - 1) (text ++ 92 ∷ []) else text ++ 92 ∷ []) (goes_on_more text)
    ∙ ap (λ (n : ℕ). take n (text ++ 92 ∷ [])) count
    ∙ front_of text (92 ∷ [])

-- ---- the lines of a text

no_line_end : (text : List ℕ) → AllPlain text → All (λ x. is_lf x ≡ false) text
no_line_end [] plain = All-nil (λ x. is_lf x ≡ false)
no_line_end (octet ∷ text) plain = All-cons (λ x. is_lf x ≡ false) octet text plain.0.no_end (no_line_end text plain.1)

one_line : (text : List ℕ) → AllPlain text → lines_of text ≡ text ∷ []
one_line text plain = slice_split_none is_lf text (no_line_end text plain)

no_line_end_more : (text : List ℕ) → AllPlain text → All (λ x. is_lf x ≡ false) (text ++ 92 ∷ 13 ∷ [])
no_line_end_more [] plain =
    All-cons (λ x. is_lf x ≡ false) 92 (13 ∷ []) refl (All-cons (λ x. is_lf x ≡ false) 13 [] refl (All-nil (λ x. is_lf x ≡ false)))
no_line_end_more (octet ∷ text) plain =
    All-cons (λ x. is_lf x ≡ false) octet (text ++ 92 ∷ 13 ∷ []) plain.0.no_end (no_line_end_more text plain.1)

more_lines : (text rest : List ℕ) → AllPlain text
    → lines_of (text ++ (92 ∷ 13 ∷ 10 ∷ rest)) ≡ (text ++ 92 ∷ 13 ∷ []) ∷ lines_of rest
more_lines text rest plain =
    ap (slice_split is_lf) (sym (append_assoc text (92 ∷ 13 ∷ []) (10 ∷ rest)))
    ∙ slice_split_at is_lf (text ++ 92 ∷ 13 ∷ []) 10 rest (no_line_end_more text plain) refl

-- ---- what the lines add

last_line_read : (before : List ℕ) (octet : ℕ) (text : List ℕ) → AllPlain (octet ∷ text)
    → with_lines before (lines_of (octet ∷ text)) ≡ with_octets before (octet ∷ text)
last_line_read before octet text plain =
    ap (with_lines before) (one_line (octet ∷ text) plain)
    ∙ ap (λ (t : List ℕ). with_octets before (body_of t) >>= λ more. if goes_on t then with_lines more [] else Ok more) (trimmed_plain octet text plain)
    ∙ ap (λ (b : Bool). with_octets before (body_of (octet ∷ text)) >>= λ more. if b then with_lines more [] else Ok more) (goes_on_plain (octet ∷ text) plain)
    ∙ ap (λ (t : List ℕ). with_octets before t >>= λ more. Ok more) (body_plain (octet ∷ text) plain)
    ∙ as_it_is (with_octets before (octet ∷ text))
  where
    as_it_is : (r : Result (List ℕ) Cause) → (r >>= λ more. Ok more) ≡ r
    as_it_is (Ok more) = refl
    as_it_is (Err cause) = refl

line_read : (before all rest : List ℕ) (octet : ℕ) (text : List ℕ) → AllPlain (octet ∷ text) → with_octets before (octet ∷ text) ≡ Ok all
    → with_lines before (lines_of (octet ∷ text ++ (92 ∷ 13 ∷ 10 ∷ rest))) ≡ with_lines all (lines_of rest)
line_read before all rest octet text plain read =
    ap (with_lines before) (more_lines (octet ∷ text) rest plain)
    ∙ ap (λ (t : List ℕ). with_octets before (body_of t) >>= λ more. if goes_on t then with_lines more (lines_of rest) else Ok more) (trimmed_more octet text plain)
    ∙ ap (λ (b : Bool). with_octets before (body_of (octet ∷ text ++ 92 ∷ [])) >>= λ more. if b then with_lines more (lines_of rest) else Ok more) (goes_on_more (octet ∷ text))
    ∙ ap (λ (t : List ℕ). with_octets before t >>= λ more. with_lines more (lines_of rest)) (body_more (octet ∷ text))
    ∙ ap (λ (r : Result (List ℕ) Cause). r >>= λ more. with_lines more (lines_of rest)) read

last_of_front : (before front tail : List ℕ) → AllPlain (front ++ 48 ∷ tail)
    → with_lines before (lines_of (front ++ 48 ∷ tail)) ≡ with_octets before (front ++ 48 ∷ tail)
last_of_front before [] tail plain = last_line_read before 48 tail plain
last_of_front before (octet ∷ front) tail plain = last_line_read before octet (front ++ 48 ∷ tail) plain

line_of_front : (before all rest front tail : List ℕ) → AllPlain (front ++ 48 ∷ tail) → with_octets before (front ++ 48 ∷ tail) ≡ Ok all
    → with_lines before (lines_of ((front ++ 48 ∷ tail) ++ (92 ∷ 13 ∷ 10 ∷ rest))) ≡ with_lines all (lines_of rest)
line_of_front before all rest [] tail plain read = line_read before all rest 48 tail plain read
line_of_front before all rest (octet ∷ front) tail plain read = line_read before all rest octet (front ++ 48 ∷ tail) plain read

-- ---- octets behind others of their row

-- the front of a row adds these octets, whatever follows it
abbrev Reads : List ℕ → List ℕ → List ℕ → Type 0
Reads before front seen = (rest : List ℕ) → with_octets before (front ++ rest) ≡ with_octets (before ++ seen) rest

reads_nothing : (before : List ℕ) → Reads before [] []
reads_nothing before rest = ap (λ (t : List ℕ). with_octets t rest) (sym (append-nil before))

comma_read : (before : List ℕ) (octet : ℕ) (rest : List ℕ) → octet < 256 → length before < 244
    → with_octets before ((word_of octet ++ codes ",") ++ rest) ≡ with_octets (before ++ octet ∷ []) rest
comma_read before octet rest small room =
    ap (with_octets before) (append_assoc (word_of octet) (codes ",") rest ∙ append_assoc (codes "0x") (hex_2 octet) (codes "," ++ rest))
    ∙ ap (with_words before) (first_words octet rest small)
    ∙ ap (λ (r : Result (List ℕ) Cause). r >>= λ more. with_words more (slice_split is_separator rest)) (word_read before octet small room)

reads_more : (before front seen : List ℕ) (octet : ℕ) → octet < 256 → length before + length seen < 244 → Reads before front seen
    → Reads before (front ++ (word_of octet ++ codes ",")) (seen ++ octet ∷ [])
reads_more before front seen octet small room reads rest =
    ap (with_octets before) (append_assoc front (word_of octet ++ codes ",") rest)
    ∙ reads ((word_of octet ++ codes ",") ++ rest)
    ∙ comma_read (before ++ seen) octet rest small (omega (arith, length-append before seen))
    ∙ ap (λ (t : List ℕ). with_octets t rest) (append_assoc before seen (octet ∷ []))

plain_more : (front : List ℕ) (octet : ℕ) → AllPlain front → AllPlain (front ++ (word_of octet ++ codes ","))
plain_more front octet plain =
    plain_join front (word_of octet ++ codes ",") plain (plain_join (word_of octet) (codes ",") (plain_word octet) (plain_comma, tt))

-- how the octets behind one are read, in its row or in the next one
abbrev ReadsOthers : List ℕ → Type 0
ReadsOthers others =
    (room : ℕ) (before front seen : List ℕ) → AllPlain front → Reads before front seen → length before + length seen + length others ≤ 244
    → with_lines before (lines_of (front ++ octets_text room others)) ≡ Ok (before ++ (seen ++ others))

parted : (front word rest others : List ℕ) → front ++ (codes "0x" ++ (word ++ (rest ++ others))) ≡ (front ++ ((codes "0x" ++ word) ++ rest)) ++ others
parted front word rest others =
    ap (λ (t : List ℕ). front ++ t) (sym (append_assoc (codes "0x") word (rest ++ others)) ∙ sym (append_assoc (codes "0x" ++ word) rest others))
    ∙ sym (append_assoc front ((codes "0x" ++ word) ++ rest) others)

behind_octet : (is_last : Bool) (room octet : ℕ) (before front seen others : List ℕ) → (room == 0) ≡ is_last → octet < 256
    → AllPlain front → Reads before front seen → length before + length seen + 1 + length others ≤ 244 → ReadsOthers others
    → with_lines before (lines_of (front ++ (codes "0x" ++ (hex_2 octet ++ (separator room ++ octets_text (room_behind room) others)))))
    ≡ Ok (before ++ (seen ++ octet ∷ others))
behind_octet false room octet before front seen others last small plain reads fits others_read =
    ap (λ (b : Bool). with_lines before (lines_of (front ++ (codes "0x" ++ (hex_2 octet ++ ((if b then codes ",\\" ++ line_end else codes ",") ++ octets_text (room_behind room) others)))))) last
    ∙ ap (λ (t : List ℕ). with_lines before (lines_of t)) (parted front (hex_2 octet) (codes ",") (octets_text (room_behind room) others))
    ∙ others_read (room_behind room) before (front ++ (word_of octet ++ codes ",")) (seen ++ octet ∷ []) (plain_more front octet plain)
    (reads_more before front seen octet small (omega arith) reads) (omega (arith, length-append seen (octet ∷ [])))
    ∙ ap (λ (t : List ℕ). Ok (before ++ t)) (append_assoc seen (octet ∷ []) others)
behind_octet true room octet before front seen others last small plain reads fits others_read =
    let row : List ℕ = front ++ (word_of octet ++ codes ",") in
    let all : List ℕ = before ++ (seen ++ octet ∷ []) in
    let read : with_octets before row ≡ Ok all =
    ap (with_octets before) (sym (append-nil row)) ∙ reads_more before front seen octet small (omega arith) reads [] in
    ap (λ (b : Bool). with_lines before (lines_of (front ++ (codes "0x" ++ (hex_2 octet ++ ((if b then codes ",\\" ++ line_end else codes ",") ++ octets_text (room_behind room) others)))))) last
    ∙ ap (λ (t : List ℕ). with_lines before (lines_of t)) (parted front (hex_2 octet) (codes ",") (92 ∷ 13 ∷ 10 ∷ octets_text (room_behind room) others))
    ∙ line_of_front before all (octets_text (room_behind room) others) front (120 ∷ (hex_2 octet ++ codes ",")) (plain_more front octet plain) read
    ∙ others_read (room_behind room) all [] [] tt (reads_nothing all)
    (omega (arith, length-append before (seen ++ octet ∷ []), length-append seen (octet ∷ [])))
    ∙ ap (λ (t : List ℕ). Ok t) (append_assoc before (seen ++ octet ∷ []) others ∙ ap (λ (t : List ℕ). before ++ t) (append_assoc seen (octet ∷ []) others))

rows_read : (octet : ℕ) (octets : List ℕ) (room : ℕ) (before front seen : List ℕ) → octet < 256 → AllByRecursion (λ x. x < 256) octets
    → AllPlain front → Reads before front seen → length before + length seen + length (octet ∷ octets) ≤ 244
    → with_lines before (lines_of (front ++ octets_text room (octet ∷ octets))) ≡ Ok (before ++ (seen ++ octet ∷ octets))
rows_read octet [] room before front seen small all plain reads fits =
    last_of_front before front (120 ∷ hex_2 octet) (plain_join front (word_of octet) plain (plain_word octet))
    ∙ reads (word_of octet)
    ∙ octet_read_last (before ++ seen) octet small (omega (arith, length-append before seen))
    ∙ ap (λ (t : List ℕ). Ok t) (append_assoc before seen (octet ∷ []))
rows_read octet (next ∷ octets) room before front seen small all plain reads fits =
    behind_octet (room == 0) room octet before front seen (next ∷ octets) refl small plain reads (omega arith)
    (λ r b f s p q within. rows_read next octets r b f s all.0 all.1 p q within)

-- the octets of a configuration are read from their text, over all of its rows
pub octets_read : (octets : List ℕ) (room : ℕ) → AllByRecursion (λ octet. octet < 256) octets → length octets ≤ 244
    → with_lines [] (lines_of (octets_text room octets)) ≡ Ok octets
octets_read [] room all within = refl
octets_read (octet ∷ octets) room all within =
    rows_read octet octets room [] [] [] all.0 all.1 tt (reads_nothing []) (omega arith)
