-- Rows of entries as one text, and its lines.
use Rattle.std.proofs.Common.{◌≡◌, ℕ, true, List, [], ◌∷◌, ◌++◌, refl, sym, ap, ◌∙◌, append_assoc}
use Rattle.std.specs.List.{AllByRecursion}
use Rattle.std.proofs.lemmas.Bool.{cond-true}
use Rattle.dp_line.specs.World.{Description}
use Rattle.dp_text.specs.Words.{lines_of}
use Rattle.dp_audit.specs.FirstWrong.{HasNoLf}
use Rattle.dp_audit.specs.declared.fault.AuditFault.TheVariants.{BadLine}
use Rattle.dp_audit.specs.Check.{checked, is_accepted_header}
use Rattle.explain_texts.specs.declared.choice.Choice.{Choice}
use Rattle.explain_texts.specs.Entries.{entries_verdict, followed_entries}
use Rattle.explain_texts.specs.Followed.{FollowerView, first_follower, followed, followed_lines, followed_text, followed_verdict, last_line, verdict_at, whole_rows}
use Rattle.explain_texts.proofs.Following.{verdict_of_rows}
use Rattle.explain_texts.proofs.ReadLines.{has_first, last_is, line_alone, lines_judged, lines_more, rows_before_last}
use Rattle.explain_texts.proofs.RightRows.{fails}

-- ---- rows, each with its LF

abbrev pub rows_text : List (List ℕ) → List ℕ
rows_text [] = []
rows_text (row ∷ rows) = row ++ 10 ∷ rows_text rows

-- one more row
pub text_with_row : (rows : List (List ℕ)) (row : List ℕ) → rows_text (rows ++ row ∷ []) ≡ rows_text rows ++ (row ++ 10 ∷ [])
text_with_row [] row = refl
text_with_row (first ∷ rows) row =
    ap (λ (t : List ℕ). first ++ 10 ∷ t) (text_with_row rows row)
    ∙ sym (append_assoc first (10 ∷ rows_text rows) (row ++ 10 ∷ []))

pub all_with_row : (rows : List (List ℕ)) (row : List ℕ) → AllByRecursion HasNoLf rows → HasNoLf row → AllByRecursion HasNoLf (rows ++ row ∷ [])
all_with_row [] row none last = (last, tt)
all_with_row (first ∷ rows) row none last = (none.0, all_with_row rows row none.1 last)

-- ---- its lines

lines_behind : (rows : List (List ℕ)) (more : List ℕ) → AllByRecursion HasNoLf rows → lines_of (rows_text rows ++ more) ≡ rows ++ lines_of more
lines_behind [] more none = refl
lines_behind (row ∷ rows) more none =
    let others = rows_text rows ++ more in
    ap lines_of (append_assoc row (10 ∷ rows_text rows) more)
    ∙ lines_more row others
    ∙ ap (λ (ls : List (List ℕ)). ls ++ lines_of others) (line_alone row none.0)
    ∙ ap (λ (ls : List (List ℕ)). row ∷ ls) (lines_behind rows more none.1)

-- the rows, and what follows the last LF
last_lines : (rows : List (List ℕ)) (last : List ℕ) → AllByRecursion HasNoLf rows → HasNoLf last → lines_of (rows_text rows ++ last) ≡ rows ++ last ∷ []
last_lines rows last none ends = lines_behind rows last none ∙ ap (λ (ls : List (List ℕ)). rows ++ ls) (line_alone last ends)

pub entries_followed : (choice : Choice) (first : FollowerView) (rows : List (List ℕ)) (last : List ℕ) → AllByRecursion HasNoLf rows → HasNoLf last
    → followed_entries choice first (rows_text rows ++ last) ≡ followed choice first rows
entries_followed choice first rows last none ends =
    ap (λ (ls : List (List ℕ)). followed choice first (whole_rows ls)) (last_lines rows last none ends)
    ∙ ap (followed choice first) (rows_before_last rows last)

pub entries_judged : (choice : Choice) (first : FollowerView) (rows : List (List ℕ)) (last : List ℕ) → AllByRecursion HasNoLf rows → HasNoLf last
    → entries_verdict choice first (rows_text rows ++ last) ≡ verdict_at (followed choice first rows).last last
entries_judged choice first rows last none ends =
    ap (λ (ls : List (List ℕ)). verdict_at (followed choice first (whole_rows ls)).last (last_line ls)) (last_lines rows last none ends)
    ∙ ap (λ (rs : List (List ℕ)). verdict_at (followed choice first rs).last (last_line (rows ++ last ∷ []))) (rows_before_last rows last)
    ∙ ap (verdict_at (followed choice first rows).last) (last_is rows last)

-- ---- a text of a header and entries

header_lines : (header entries : List ℕ) → HasNoLf header → lines_of ((header ++ 10 ∷ []) ++ entries) ≡ header ∷ lines_of entries
header_lines header entries none =
    ap lines_of (append_assoc header (10 ∷ []) entries)
    ∙ lines_more header entries
    ∙ ap (λ (ls : List (List ℕ)). ls ++ lines_of entries) (line_alone header none)

pub text_followed : (choice : Choice) (line : Description) (header entries : List ℕ) → HasNoLf header → is_accepted_header line header ≡ true
    → followed_text choice line ((header ++ 10 ∷ []) ++ entries) ≡ followed_entries choice (first_follower line (header ∷ [])) entries
text_followed choice line header entries none accepted =
    ap (followed_lines choice line) (header_lines header entries none)
    ∙ ap (followed choice (first_follower line (header ∷ []))) (cond-true (is_accepted_header line header) (whole_rows (lines_of entries)) [] accepted)

lines_verdict : (choice : Choice) (line : Description) (header : List ℕ) (lines : List (List ℕ)) (next : List ℕ) (others : List (List ℕ)) → lines ≡ next ∷ others → is_accepted_header line header ≡ true
    → followed_verdict choice line (header ∷ lines) ≡ verdict_at (followed choice (first_follower line (header ∷ [])) (whole_rows lines)).last (last_line lines)
lines_verdict choice line header lines next others is accepted =
    let first = first_follower line (header ∷ []) in
    ap (λ (ls : List (List ℕ)). followed_verdict choice line (header ∷ ls)) is
    ∙ lines_judged choice line header [] next others
    ∙ cond-true (is_accepted_header line header) _ (fails (BadLine 1)) accepted
    ∙ sym (ap (λ (ls : List (List ℕ)). verdict_at (followed choice first (whole_rows ls)).last (last_line ls)) is)

pub text_judged : (choice : Choice) (line : Description) (header entries : List ℕ) → HasNoLf header → is_accepted_header line header ≡ true
    → checked line ((header ++ 10 ∷ []) ++ entries) ≡ entries_verdict choice (first_follower line (header ∷ [])) entries
text_judged choice line header entries none accepted =
    let lines = has_first entries in
    verdict_of_rows choice line ((header ++ 10 ∷ []) ++ entries)
    ∙ ap (followed_verdict choice line) (header_lines header entries none)
    ∙ lines_verdict choice line header (lines_of entries) lines.first lines.others lines.is accepted
