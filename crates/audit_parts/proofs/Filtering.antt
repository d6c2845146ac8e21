-- What is given of rows.
use Rattle.std.proofs.Common.{◌≡◌, ◌≢◌, ℕ, zero, suc, ◌<◌, ◌+◌, ◌-◌, ◌==◌, inl, inr, Bool, true, false, cond, List, [], ◌∷◌, ◌++◌, length, take, drop, All, Option, Some, None, IfSome, get_or, refl, sym, ap, subst, ◌∙◌, append_assoc, codes, arith}
use Rattle.std.specs.Io.{StopsAt, StartsWith, appended_bytes}
use Rattle.std.specs.Io.BufRead.{DropsThrough, drop_through, take_through}
use Rattle.std.specs.Io.KnownBytes.{Consumes, Keeps, prepend_known}
use Rattle.std.proofs.lemmas.Bool.{eqb-true, ne_eqb}
use Rattle.std.proofs.lemmas.List.{append-nil, length-append, take-append-drop, take_all}
use Rattle.std.proofs.lemmas.List.Elements.{All-append, All-cons, All-from_recursion, All-more, All-nil, All-take, recursion_from_All}
use Rattle.std.proofs.lemmas.List.Splits.{slice_split_at, slice_split_none}
use Rattle.dp_text.specs.Words.{lines_of}
use Rattle.dp_audit.specs.AuditText.{line_text}
use Rattle.dp_audit.specs.FirstWrong.{HasNoLf}
use Rattle.audit_parts.specs.Parts.{PartsView}
use Rattle.audit_parts.specs.EntryText.{end_given, entries_given, row_given, rows_given}
use Rattle.audit_parts.specs.Filtering.{EndsKnown, EndsRow}
use Rattle.audit_parts.proofs.Alone.{some_line}

-- ---- the LF of a row

abbrev IsNoLf : ℕ → Type 0
IsNoLf octet = octet ≢ 10

abbrev ends : ℕ → Bool
ends octet = octet == 10

get_or_same : (xs : List ℕ) (i d e : ℕ) → i < length xs → get_or xs i d ≡ get_or xs i e
get_or_same [] i d e within = absurd (omega arith)
get_or_same (x ∷ xs) zero d e within = refl
get_or_same (x ∷ xs) (suc i) d e within = get_or_same xs i d e (omega arith)

last_at : (row : List ℕ) (n : ℕ) → n < length row → get_or row n 0 ≡ 10 → drop n row ≡ 10 ∷ drop (suc n) row
last_at [] n within last = absurd (omega arith)
last_at (x ∷ row) zero within last = ap (λ (o : ℕ). o ∷ row) last
last_at (x ∷ row) (suc n) within last = last_at row n (omega (arith, within)) last

-- if the last octet is another one
pub no_lf_at_end : (row : List ℕ) (last : ℕ) → (length row ≡ 0 → ⊥) → last ≡ get_or row (length row - 1) last → last ≢ 10 → StopsAt row 10 → HasNoLf row
no_lf_at_end row last some is other stops =
    let all : All IsNoLf (take (length row - 1 + 1) row) =
    All-more IsNoLf row (length row - 1) last (omega arith) stops (subst IsNoLf is other) in
    let whole : length row - 1 + 1 ≡ length row = omega arith in
    recursion_from_All IsNoLf row (subst (All IsNoLf) (ap (λ (n : ℕ). take n row) whole ∙ take_all (length row) row (omega arith)) all)

-- a row of which the last octet is no LF
pub no_lf_from : (row back : List ℕ) (count : ℕ) → StopsAt row 10 → (count ≡ 0 → ⊥) → count ≡ length row → back ≡ drop (count - 1) row → ((rest : List ℕ) → back ≡ 10 ∷ rest → ⊥) → HasNoLf row
no_lf_from row back count stopped some is behind other =
    no_lf_at_end row (get_or row (length row - 1) 0) (λ none. some (is ∙ none)) (get_or_same row (length row - 1) 0 _ (omega (arith, is, some)))
    (λ last. other (drop (suc (length row - 1)) row) (behind ∙ ap (λ (n : ℕ). drop (n - 1) row) is ∙ last_at row (length row - 1) (omega (arith, is, some)) last)) stopped

-- a row with its LF has one
pub line_has_lf : (front : List ℕ) → HasNoLf (line_text front) → ⊥
line_has_lf [] none = none.0 refl
line_has_lf (octet ∷ front) none = line_has_lf front none.1

no_end : (line : List ℕ) → HasNoLf line → All (λ octet. ends octet ≡ false) line
no_end [] none = All-nil (λ octet. ends octet ≡ false)
no_end (octet ∷ line) none = All-cons (λ octet. ends octet ≡ false) octet line (ne_eqb octet 10 none.0) (no_end line none.1)

line_alone : (line : List ℕ) → HasNoLf line → lines_of line ≡ line ∷ []
line_alone line none = slice_split_none ends line (no_end line none)

line_first : (line behind : List ℕ) → HasNoLf line → lines_of (line_text line ++ behind) ≡ line ∷ lines_of behind
line_first line behind none = ap lines_of (append_assoc line (codes "\n") behind) ∙ slice_split_at ends line 10 behind (no_end line none) refl

-- ---- what is given

-- of a row with its LF, and of what is behind it
pub given_first : (check : Option PartsView) (line behind : List ℕ) → HasNoLf line
    → entries_given check (line_text line ++ behind) ≡ (row_given check line).0 ++ entries_given (row_given check line).1 behind
given_first check line behind none =
    let has = some_line behind in
    ap (rows_given check) (line_first line behind none ∙ ap (λ (ls : List (List ℕ)). line ∷ ls) has.is)
    ∙ sym (ap (λ (ls : List (List ℕ)). (row_given check line).0 ++ rows_given (row_given check line).1 ls) has.is)

-- of what follows the last LF
pub given_last : (check : Option PartsView) (line : List ℕ) → HasNoLf line → entries_given check line ≡ line ++ end_given check
given_last check line none = ap (rows_given check) (line_alone line none)

-- ---- a row that is read on

take_behind : (front piece : List ℕ) (count : ℕ) → take (length front + count) (front ++ piece) ≡ front ++ take count piece
take_behind [] piece count = let none : 0 + count ≡ count = omega arith in ap (λ (n : ℕ). take n piece) none
take_behind (octet ∷ front) piece count =
    let more : length (octet ∷ front) + count ≡ suc (length front + count) = omega arith in
    ap (λ (n : ℕ). take n (octet ∷ (front ++ piece))) more ∙ ap (λ (octets : List ℕ). octet ∷ octets) (take_behind front piece count)

-- the octets before the last one
abbrev before : List ℕ → List ℕ
before row = take (length row - 1) row

stops_by : (front piece : List ℕ) → HasNoLf front → StopsAt piece 10 → StopsAt (front ++ piece) 10
stops_by front [] none stopped =
    All-take IsNoLf (length (front ++ []) - 1) (front ++ []) (subst (All IsNoLf) (sym (append-nil front)) (All-from_recursion IsNoLf front none))
stops_by front (octet ∷ piece) none stopped =
    let count : length (front ++ octet ∷ piece) - 1 ≡ length front + (length (octet ∷ piece) - 1) = omega (arith, length-append front (octet ∷ piece)) in
    let is : before (front ++ octet ∷ piece) ≡ front ++ before (octet ∷ piece) =
    ap (λ (n : ℕ). take n (front ++ octet ∷ piece)) count ∙ take_behind front (octet ∷ piece) (length (octet ∷ piece) - 1) in
    subst (All IsNoLf) (sym is) (All-append IsNoLf front (before (octet ∷ piece)) (All-from_recursion IsNoLf front none) stopped)

appended : (old new : List ℕ) → StartsWith new old → new ≡ old ++ appended_bytes old new
appended old new starts = sym (take-append-drop (length old) new) ∙ ap (λ (front : List ℕ). front ++ appended_bytes old new) starts

-- no octet but the last is an LF
pub stops : (old new : List ℕ) → HasNoLf old → StartsWith new old → StopsAt (appended_bytes old new) 10 → StopsAt new 10
stops old new none starts stopped =
    subst (λ (row : List ℕ). StopsAt row 10) (sym (appended old new starts)) (stops_by old (appended_bytes old new) none stopped)

-- none is lost
pub kept_on : (a b : Option (List ℕ)) (old new : List ℕ) → StartsWith new old → Consumes a b (appended_bytes old new) → Keeps (prepend_known old a) (prepend_known new b)
kept_on None b old new starts none_lost = tt
kept_on (Some x) None old new starts none_lost = absurd none_lost
kept_on (Some x) (Some y) old new starts none_lost =
    ap (λ (octets : List ℕ). octets ++ y) (appended old new starts)
    ∙ append_assoc old (appended_bytes old new) y
    ∙ ap (λ (octets : List ℕ). old ++ octets) (sym none_lost)

-- the octets up to the first LF end with it, or they are all
through_by : (octet : ℕ) (octets : List ℕ) (is : Bool) → ends octet ≡ is → EndsRow (take_through 10 octets) (drop_through 10 octets)
    → EndsRow (cond is (octet ∷ []) (octet ∷ take_through 10 octets)) (cond is octets (drop_through 10 octets))
through_by octet octets true is others = inl ([], ap (λ (o : ℕ). o ∷ []) (eqb-true octet 10 is))
through_by octet octets false is (inl (front, text)) = inl (octet ∷ front, ap (λ (os : List ℕ). octet ∷ os) text)
through_by octet octets false is (inr none) = inr none

through : (octets : List ℕ) → EndsRow (take_through 10 octets) (drop_through 10 octets)
through [] = inr refl
through (octet ∷ octets) = through_by octet octets (ends octet) refl (through octets)

behind_row : (old new rest : List ℕ) → EndsRow new rest → EndsRow (old ++ new) rest
behind_row old new rest (inl (front, text)) = inl (old ++ front, ap (λ (os : List ℕ). old ++ os) text ∙ sym (append_assoc old front (codes "\n")))
behind_row old new rest (inr none) = inr none

pub ends_on : (a b : Option (List ℕ)) (old new : List ℕ) → IfSome a (λ octets. new ≡ old ++ take_through 10 octets) → DropsThrough a b 10
    → EndsKnown a b new
ends_on None b old new reads drops = tt
ends_on (Some x) b old new reads drops =
    subst (λ (left : Option (List ℕ)). EndsKnown (Some x) left new) (sym drops)
    (subst (λ (row : List ℕ). EndsRow row (drop_through 10 x)) (sym reads) (behind_row old (take_through 10 x) (drop_through 10 x) (through x)))
