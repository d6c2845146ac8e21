-- The lines of a text of whole rows, and of what follows it.
use Rattle.std.proofs.Common.{◌≡◌, ℕ, ◌<◌, ◌==◌, Bool, true, false, cond, List, [], ◌∷◌, ◌++◌, length, All, refl, sym, ap, ◌∙◌, append_assoc, arith}
use Rattle.std.specs.List.{onto_first}
use Rattle.std.proofs.lemmas.Bool.{cond-true, ne_eqb}
use Rattle.std.proofs.lemmas.List.{append-nil}
use Rattle.std.proofs.lemmas.List.Elements.{All-nil, All-cons}
use Rattle.std.proofs.lemmas.List.Splits.{length-slice_split, slice_split-cons_no, slice_split-cons_yes, slice_split_none}
use Rattle.dp_line.specs.World.{Description}
use Rattle.dp_text.specs.Words.{lines_of}
use Rattle.dp_audit.specs.FirstWrong.{HasNoLf}
use Rattle.dp_audit.specs.declared.fault.AuditFault.TheVariants.{BadLine}
use Rattle.dp_audit.specs.Check.{checked, is_accepted_header}
use Rattle.explain_texts.specs.declared.choice.Choice.{Choice}
use Rattle.explain_texts.specs.declared.hold.Hold.{Hold}
use Rattle.explain_texts.specs.Followed.{Followed, FollowerView, after_row, first_follower, followed, followed_lines, followed_text, followed_verdict, facts_of_row, holds_of_row, last_line, verdict_at, whole_rows}
use Rattle.explain_texts.specs.Reported.{Reported}
use Rattle.explain_texts.proofs.Following.{verdict_of_rows}
use Rattle.explain_texts.proofs.RightRows.{fails}

-- ---- lines

abbrev ends : ℕ → Bool
ends octet = octet == 10

no_end : (line : List ℕ) → HasNoLf line → All (λ octet. ends octet ≡ false) line
no_end [] none = All-nil (λ octet. ends octet ≡ false)
no_end (octet ∷ line) none = All-cons (λ octet. ends octet ≡ false) octet line (ne_eqb octet 10 none.0) (no_end line none.1)

pub line_alone : (line : List ℕ) → HasNoLf line → lines_of line ≡ line ∷ []
line_alone line none = slice_split_none ends line (no_end line none)

onto_more : (octet : ℕ) (parts more : List (List ℕ)) → 0 < length parts → onto_first octet (parts ++ more) ≡ onto_first octet parts ++ more
onto_more octet [] more some = absurd (omega arith)
onto_more octet (part ∷ parts) more some = refl

more_by : (octet : ℕ) (octets more : List ℕ) (is : Bool) → ends octet ≡ is → lines_of (octets ++ 10 ∷ more) ≡ lines_of octets ++ lines_of more
    → lines_of (octet ∷ (octets ++ 10 ∷ more)) ≡ lines_of (octet ∷ octets) ++ lines_of more
more_by octet octets more true is others =
    slice_split-cons_yes ends octet (octets ++ 10 ∷ more) is
    ∙ ap (λ (ls : List (List ℕ)). [] ∷ ls) others
    ∙ sym (ap (λ (ls : List (List ℕ)). ls ++ lines_of more) (slice_split-cons_yes ends octet octets is))
more_by octet octets more false is others =
    slice_split-cons_no ends octet (octets ++ 10 ∷ more) is
    ∙ ap (onto_first octet) others
    ∙ onto_more octet (lines_of octets) (lines_of more) (omega (arith, length-slice_split ends octets))
    ∙ sym (ap (λ (ls : List (List ℕ)). ls ++ lines_of more) (slice_split-cons_no ends octet octets is))

-- an LF ends the lines before it
pub lines_more : (front more : List ℕ) → lines_of (front ++ 10 ∷ more) ≡ lines_of front ++ lines_of more
lines_more [] more = slice_split-cons_yes ends 10 more refl
lines_more (octet ∷ octets) more = more_by octet octets more (ends octet) refl (lines_more octets more)

-- there is at least one line
pub record HasFirst (lines : List (List ℕ)) : Type 0 where
  pub first : List ℕ
  pub others : List (List ℕ)
  pub is : lines ≡ first ∷ others

first_by : (lines : List (List ℕ)) → 0 < length lines → HasFirst lines
first_by [] some = absurd (omega arith)
first_by (line ∷ lines) some = record { first = line; others = lines; is = refl }

pub has_first : (text : List ℕ) → HasFirst (lines_of text)
has_first text = first_by (lines_of text) (omega (arith, length-slice_split ends text))

-- ---- rows behind the header

pub whole_rows_more : (rows : List (List ℕ)) (next : List ℕ) (others : List (List ℕ)) → whole_rows (rows ++ next ∷ others) ≡ rows ++ whole_rows (next ∷ others)
whole_rows_more [] next others = refl
whole_rows_more (row ∷ []) next others = refl
whole_rows_more (row ∷ second ∷ rows) next others = ap (λ (rs : List (List ℕ)). row ∷ rs) (whole_rows_more (second ∷ rows) next others)

pub rows_before_last : (rows : List (List ℕ)) (last : List ℕ) → whole_rows (rows ++ last ∷ []) ≡ rows
rows_before_last rows last = whole_rows_more rows last [] ∙ append-nil rows

pub last_is : (rows : List (List ℕ)) (last : List ℕ) → last_line (rows ++ last ∷ []) ≡ last
last_is [] last = refl
last_is (row ∷ []) last = refl
last_is (row ∷ second ∷ rows) last = last_is (second ∷ rows) last

-- ---- rows that are followed

abbrev pub joined : Followed → Followed → Followed
joined first second = record { reported = first.reported ++ second.reported; ended = first.ended ++ second.ended; last = second.last }

same_parts : (a b : List Reported) (c d : List Hold) (last : FollowerView) → a ≡ b → c ≡ d → ◌≡◌ {A = Followed} (record { reported = a; ended = c; last = last }) (record { reported = b; ended = d; last = last })
same_parts a b c d last reported ended = rw (reported, ended) refl

pub followed_more : (choice : Choice) (follower : FollowerView) (rows others : List (List ℕ))
    → followed choice follower (rows ++ others) ≡ joined (followed choice follower rows) (followed choice (followed choice follower rows).last others)
followed_more choice follower [] others = refl
followed_more choice follower (row ∷ rows) others =
    let rest = followed choice (after_row follower row) rows in
    let behind = followed choice rest.last others in
    ap (λ (f : Followed). record { reported = facts_of_row choice follower row ++ f.reported; ended = holds_of_row follower row ++ f.ended; last = f.last })
    (followed_more choice (after_row follower row) rows others)
    ∙ same_parts _ _ _ _ behind.last (sym (append_assoc (facts_of_row choice follower row) rest.reported behind.reported)) (sym (append_assoc (holds_of_row follower row) rest.ended behind.ended))

-- one more row
abbrev pub and_row : Choice → Followed → List ℕ → Followed
and_row choice before row = record {
  reported = before.reported ++ facts_of_row choice before.last row;
  ended = before.ended ++ holds_of_row before.last row;
  last = after_row before.last row;
}

pub followed_row : (choice : Choice) (follower : FollowerView) (rows : List (List ℕ)) (row : List ℕ) → followed choice follower (rows ++ row ∷ []) ≡ and_row choice (followed choice follower rows) row
followed_row choice follower rows row =
    let before = followed choice follower rows in
    followed_more choice follower rows (row ∷ [])
    ∙ same_parts _ _ _ _ (after_row before.last row)
    (ap (λ (facts : List Reported). before.reported ++ facts) (append-nil (facts_of_row choice before.last row)))
    (ap (λ (holds : List Hold). before.ended ++ holds) (append-nil (holds_of_row before.last row)))

-- ---- a text of whole rows behind a header

pub record AreRows (line : Description) (text : List ℕ) : Type 0 where
  pub front : List ℕ
  pub whole : text ≡ front ++ 10 ∷ []
  pub header : List ℕ
  pub rows : List (List ℕ)
  pub lines : lines_of front ≡ header ∷ rows
  pub accepted : is_accepted_header line header ≡ true

-- its rows, followed
abbrev pub rows_followed : (choice : Choice) (line : Description) (text : List ℕ) → AreRows line text → Followed
rows_followed choice line text are = followed choice (first_follower line (are.header ∷ [])) are.rows

-- the lines of the text and of more
pub lines_are : (line : Description) (text more : List ℕ) (are : AreRows line text) → lines_of (text ++ more) ≡ are.header ∷ (are.rows ++ lines_of more)
lines_are line text more are =
    ap (λ (t : List ℕ). lines_of (t ++ more)) are.whole
    ∙ ap lines_of (append_assoc are.front (10 ∷ []) more)
    ∙ lines_more are.front more
    ∙ ap (λ (ls : List (List ℕ)). ls ++ lines_of more) are.lines

pub last_lines : (line : Description) (text last : List ℕ) (are : AreRows line text) → HasNoLf last → lines_of (text ++ last) ≡ are.header ∷ (are.rows ++ last ∷ [])
last_lines line text last are none = lines_are line text last are ∙ ap (λ (ls : List (List ℕ)). are.header ∷ (are.rows ++ ls)) (line_alone last none)

lines_followed : (choice : Choice) (line : Description) (header : List ℕ) (rows : List (List ℕ)) (last : List ℕ) → is_accepted_header line header ≡ true
    → followed_lines choice line (header ∷ (rows ++ last ∷ [])) ≡ followed choice (first_follower line (header ∷ [])) rows
lines_followed choice line header rows last accepted =
    ap (λ (b : Bool). followed choice (first_follower line (header ∷ [])) (cond b (whole_rows (rows ++ last ∷ [])) [])) accepted
    ∙ ap (followed choice (first_follower line (header ∷ []))) (rows_before_last rows last)

-- what follows the last LF is not followed
pub text_followed : (choice : Choice) (line : Description) (text last : List ℕ) (are : AreRows line text) → HasNoLf last → followed_text choice line (text ++ last) ≡ rows_followed choice line text are
text_followed choice line text last are none =
    ap (followed_lines choice line) (last_lines line text last are none) ∙ lines_followed choice line are.header are.rows last are.accepted

-- the verdict on lines, of which the first is the header
pub lines_judged : (choice : Choice) (line : Description) (header : List ℕ) (rows : List (List ℕ)) (next : List ℕ) (others : List (List ℕ))
    → followed_verdict choice line (header ∷ (rows ++ next ∷ others))
    ≡ cond (is_accepted_header line header) (verdict_at (followed choice (first_follower line (header ∷ [])) (whole_rows (rows ++ next ∷ others))).last (last_line (rows ++ next ∷ others))) (fails (BadLine 1))
lines_judged choice line header [] next others = refl
lines_judged choice line header (row ∷ rows) next others = refl

rows_judged : (choice : Choice) (line : Description) (header : List ℕ) (rows : List (List ℕ)) (last : List ℕ) → is_accepted_header line header ≡ true
    → followed_verdict choice line (header ∷ (rows ++ last ∷ [])) ≡ verdict_at (followed choice (first_follower line (header ∷ [])) rows).last last
rows_judged choice line header rows last accepted =
    let first = first_follower line (header ∷ []) in
    lines_judged choice line header rows last []
    ∙ cond-true (is_accepted_header line header) _ (fails (BadLine 1)) accepted
    ∙ ap (λ (rs : List (List ℕ)). verdict_at (followed choice first rs).last (last_line (rows ++ last ∷ []))) (rows_before_last rows last)
    ∙ ap (verdict_at (followed choice first rows).last) (last_is rows last)

-- the verdict on the text, with what follows the last LF
pub text_judged : (choice : Choice) (line : Description) (text last : List ℕ) (are : AreRows line text) → HasNoLf last → checked line (text ++ last) ≡ verdict_at (rows_followed choice line text are).last last
text_judged choice line text last are none =
    verdict_of_rows choice line (text ++ last)
    ∙ ap (followed_verdict choice line) (last_lines line text last are none)
    ∙ rows_judged choice line are.header are.rows last are.accepted

-- one more row with its LF
abbrev pub with_row : (line : Description) (text row : List ℕ) → AreRows line text → HasNoLf row → AreRows line (text ++ (row ++ 10 ∷ []))
with_row line text row are none = record {
  front = text ++ row;
  whole = sym (append_assoc text row (10 ∷ []));
  header = are.header;
  rows = are.rows ++ row ∷ [];
  lines = last_lines line text row are none;
  accepted = are.accepted;
}
